-- Blocks of FLAC as C sees them.
use Rattle.std.specs.Prelude.{ℕ, ℤ, ◌≡◌, ◌<◌, ◌≤◌, ◌+◌, ◌*◌, ◌/◌, ◌^◌, ◌==◌, ◌||◌, List, length, IsTrue}
use Rattle.flac_definitions.specs.Bits.{bits_in}
use Rattle.flac_definitions.specs.Modes.{IsFormat, IsBlock}
use Rattle.flac_definitions.specs.FrameWriting.{frame_bits}
use Rattle.flac_definitions.specs.declared.mode.BlockFormat.{BlockFormat}
use Rattle.c_library.specs.declared.blocks.FlacFormat.{FlacFormat}
use Rattle.c_library.specs.Status.{done, no_memory, too_small, invalid, fill_status, filled}

-- the format of blocks
abbrev pub format_of : FlacFormat → BlockFormat
format_of f = record { rate = f.rate; channels = f.channels; depth = f.depth; level = f.level }

-- what can be coded: a block of a format, with a number that a frame can have
pub record CanBeCoded (f : BlockFormat) (block number : ℕ) (xs : List ℤ) : Type 0 where
  pub format : IsFormat f
  pub samples : IsBlock f block xs
  pub small : number < 2 ^ 31

-- the bytes of a block's frame, how many they are, and these at the front of some room
abbrev pub IsCoded : BlockFormat → ℕ → ℕ → List ℤ → ℕ → ℕ → List ℕ → List ℕ → Type 0
IsCoded f block number xs size status old new =
    (frame : List ℕ)
    × ((bits_in frame ≡ frame_bits f block number xs)
    × ((size ≡ length frame)
    × ((status ≡ fill_status frame old)
    × (new ≡ filled frame old))))

-- bytes in which each frame of a block of so many frames has room
abbrev pub IsRoom : BlockFormat → ℕ → ℕ → Type 0
IsRoom f block room =
    (number : ℕ) (xs : List ℤ) (frame : List ℕ) → CanBeCoded f block number xs
    → bits_in frame ≡ frame_bits f block number xs → length frame ≤ room

-- those of a subframe with all its samples for each channel, and 127 bits more for the header, the padding and the sum
abbrev pub most_bytes : BlockFormat → ℕ → ℕ
most_bytes f block = (f.channels * (f.depth * block + 8) + 127) / 8

-- what a call answers that codes a block
abbrev pub IsBlockStatus : ℕ → Type 0
IsBlockStatus s = IsTrue ((s == done) || (s == no_memory) || (s == too_small) || (s == invalid))
