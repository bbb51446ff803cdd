-- How the frame of a block is written (RFC 9639, section 9).
use Rattle.std.specs.Prelude.{ℕ, ℤ, Bool, List, ◌++◌, length}
use Rattle.std.specs.List.{flat_map, range_with_len}
use Rattle.flac_definitions.specs.Bits.{bits_of, bits_to_byte}
use Rattle.flac_definitions.specs.Sums.{bits_sum}
use Rattle.flac_definitions.specs.declared.header.FrameHeader.{FrameHeader}
use Rattle.flac_definitions.specs.HeaderWriting.{header_bits}
use Rattle.flac_definitions.specs.SubframeWriting.{subframe_bits}
use Rattle.flac_definitions.specs.Modes.{channel_of, coded_of, coded_depth, assignment_of, channel_candidate, best_mode}
use Rattle.flac_definitions.specs.declared.mode.BlockFormat.{BlockFormat}
use Rattle.flac_definitions.specs.declared.mode.ChannelMode.{ChannelMode}

abbrev pub header_of : BlockFormat → ChannelMode → ℕ → ℕ → FrameHeader
header_of f mode block number =
    record { block = block; rate = f.rate; assignment = assignment_of f.channels mode; depth = f.depth; number = number }

-- the subframe of a coded channel, by its first candidate of least length
abbrev pub channel_spelled : BlockFormat → ChannelMode → ℕ → List ℤ → ℕ → List Bool
channel_spelled f mode block coded c =
    subframe_bits (coded_depth f mode c) (channel_of block coded c) (channel_candidate f mode block coded c)

-- those of the first channels
abbrev pub channels_spelled : BlockFormat → ChannelMode → ℕ → List ℤ → ℕ → List Bool
channels_spelled f mode block coded n = flat_map (channel_spelled f mode block coded) (range_with_len 0 n)

-- zeros up to a byte, and the sum of all bits before (section 9.3)
abbrev pub padded : List Bool → List Bool
padded bits = bits ++ bits_of (bits_to_byte (length bits)) 0

abbrev pub summed : List Bool → List Bool
summed bits = bits ++ bits_of 16 (bits_sum 16 0x8005 bits)

-- a frame in a mode
abbrev pub mode_frame_bits : BlockFormat → ChannelMode → ℕ → ℕ → List ℤ → List Bool
mode_frame_bits f mode block number coded =
    summed (padded (header_bits (header_of f mode block number) ++ channels_spelled f mode block coded f.channels))

-- the frame of the best block
abbrev pub frame_bits : BlockFormat → ℕ → ℕ → List ℤ → List Bool
frame_bits f block number xs = let mode = best_mode f block xs in mode_frame_bits f mode block number (coded_of mode block xs)
