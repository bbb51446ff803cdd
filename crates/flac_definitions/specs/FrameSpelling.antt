-- How frames are spelled (RFC 9639, section 9).
use Rattle.std.specs.Prelude.{ℕ, ℤ, ◌≡◌, ◌-◌, ◌%◌, Bool, List, ◌++◌, length, Some}
use Rattle.wc_config.specs.declared.stream_info.StreamInfo.{StreamInfo}
use Rattle.flac_definitions.specs.Bits.{Place, Begins, bits_of, forward, start_of}
use Rattle.flac_definitions.specs.Sums.{bits_sum}
use Rattle.flac_definitions.specs.Grammar.{Found}
use Rattle.flac_definitions.specs.Header.{channels_of}
use Rattle.flac_definitions.specs.HeaderSpelling.{IsHeader}
use Rattle.flac_definitions.specs.declared.header.FrameHeader.{FrameHeader}
use Rattle.flac_definitions.specs.Stereo.{plain_channels}
use Rattle.flac_definitions.specs.SubframeSpelling.{AreChannels}
use Rattle.flac_definitions.specs.Frame.{frame_at}

-- A frame: its header, its coded channels' subframes, zeros up to a byte, and the sum of all bits before. Its samples are the
-- plain channels of the coded ones.
pub record IsFrame (info : StreamInfo) (f : FrameHeader × List ℤ) (bits : List Bool) : Type 0 where
  pub head : List Bool
  pub body : List Bool
  pub coded : List ℤ
  pub header : IsHeader info f.0 head
  pub channels : AreChannels f.0.assignment f.0.depth f.0.block 0 (channels_of f.0.assignment) coded body
  pub samples : plain_channels f.0.assignment f.0.depth f.0.block coded ≡ Some f.1
  pub front : List Bool
  pub padded : front ≡ (head ++ body) ++ bits_of ((8 - length (head ++ body) % 8) % 8) 0
  pub summed : bits ≡ front ++ bits_of 16 (bits_sum 16 0x8005 front)

-- A frame that is read at the start of bytes is spelled there; and where a frame's spelling is there, it is read. A spelling
-- fills whole bytes.
pub record FramesAreSpelled : Type 0 where
  pub sound : (info : StreamInfo) (bytes : List ℕ) (q : Place) (f : FrameHeader × List ℤ)
      → frame_at info (start_of bytes) ≡ Some (f, q) → Found (IsFrame info) (start_of bytes) q f
  pub whole : (info : StreamInfo) (bytes : List ℕ) (f : FrameHeader × List ℤ) (bits : List Bool)
      → IsFrame info f bits → Begins (start_of bytes) bits
      → frame_at info (start_of bytes) ≡ Some (f, forward (length bits) (start_of bytes))
  pub whole_bytes : (info : StreamInfo) (f : FrameHeader × List ℤ) (bits : List Bool) → IsFrame info f bits → length bits % 8 ≡ 0
