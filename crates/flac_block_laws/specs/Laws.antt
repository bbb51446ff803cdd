-- What is written of a block, read again (RFC 9639, section 9).
use Rattle.std.specs.Prelude.{ℕ, ℤ, ◌≡◌, ◌<◌, ◌≤◌, ◌^◌, List, ◌∷◌, length, Some}
use Rattle.std.specs.List.{AllByRecursion}
use Rattle.wc_config.specs.declared.stream_info.StreamInfo.{StreamInfo}
use Rattle.flac_definitions.specs.Bits.{bits_in}
use Rattle.flac_definitions.specs.Frame.{frame_of}
use Rattle.flac_definitions.specs.FrameSpelling.{IsFrame}
use Rattle.flac_definitions.specs.Stereo.{plain_channels}
use Rattle.flac_definitions.specs.Candidates.{candidate_bits}
use Rattle.flac_definitions.specs.SubframeWriting.{subframe_bits}
use Rattle.flac_definitions.specs.declared.candidate.Candidate.{Candidate}
use Rattle.flac_subframe_laws.specs.Laws.{IsCandidate}
use Rattle.flac_definitions.specs.declared.mode.ChannelMode.TheVariants.{Independent}
use Rattle.flac_definitions.specs.Modes.{assignment_of, coded_of, mode_bits, other_modes, best_mode, IsModeOf, IsFormat, IsBlock}
use Rattle.flac_definitions.specs.FrameWriting.{header_of, channels_spelled, mode_frame_bits, frame_bits}
use Rattle.flac_definitions.specs.declared.mode.BlockFormat.{BlockFormat}
use Rattle.flac_definitions.specs.declared.mode.ChannelMode.{ChannelMode}

-- a stream's description that has a format's rate, channels and depth
pub record Describes (info : StreamInfo) (f : BlockFormat) : Type 0 where
  pub rate : f.rate ≡ info.rate
  pub channels : f.channels ≡ info.channels
  pub depth : f.depth ≡ info.depth

-- what can be written: a block of a format that is described, in a mode, with a number
pub record CanBeWritten (info : StreamInfo) (f : BlockFormat) (m : ChannelMode) (block number : ℕ) (xs : List ℤ) : Type 0 where
  pub format : IsFormat f
  pub described : Describes info f
  pub mode : IsModeOf f m
  pub samples : IsBlock f block xs
  pub small : number < 2 ^ 31

pub record WrittenFramesAreRead : Type 0 where
  -- the coded channels give the samples back
  pub restored : (f : BlockFormat) (m : ChannelMode) (block : ℕ) (xs : List ℤ) → IsFormat f → IsModeOf f m → IsBlock f block xs
      → plain_channels (assignment_of f.channels m) f.depth block (coded_of m block xs) ≡ Some xs
  -- the lengths by which candidates and modes are chosen are those of what is written
  pub candidate_lengths : (depth : ℕ) (xs : List ℤ) (c : Candidate) → IsCandidate xs c → length (subframe_bits depth xs c) ≡ candidate_bits depth xs c
  pub mode_lengths : (f : BlockFormat) (m : ChannelMode) (block : ℕ) (xs : List ℤ)
      → length (channels_spelled f m block (coded_of m block xs) f.channels) ≡ mode_bits f block xs m
  -- and no mode that the block may have is shorter than the best
  pub least : (f : BlockFormat) (block : ℕ) (xs : List ℤ) → AllByRecursion (λ m. mode_bits f block xs (best_mode f block xs) ≤ mode_bits f block xs m) (Independent ∷ other_modes f)
  -- each mode's frame is a frame of the samples
  pub spelled : (info : StreamInfo) (f : BlockFormat) (m : ChannelMode) (block number : ℕ) (xs : List ℤ) → CanBeWritten info f m block number xs
      → IsFrame info (header_of f m block number, xs) (mode_frame_bits f m block number (coded_of m block xs))
  -- and the best block's too
  pub best : (info : StreamInfo) (f : BlockFormat) (block number : ℕ) (xs : List ℤ) → CanBeWritten info f (best_mode f block xs) block number xs
      → IsFrame info (header_of f (best_mode f block xs) block number, xs) (frame_bits f block number xs)
  -- whose bytes are read as it
  pub read : (info : StreamInfo) (f : BlockFormat) (block number : ℕ) (xs : List ℤ) (bytes : List ℕ) → CanBeWritten info f (best_mode f block xs) block number xs
      → length bytes < 2 ^ 61 → bits_in bytes ≡ frame_bits f block number xs
      → frame_of info bytes ≡ Some (header_of f (best_mode f block xs) block number, xs)
