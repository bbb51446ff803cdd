-- A word whose front bits are the next ones.
use Rattle.std.specs.Prelude.{ℕ, ◌≡◌, ◌+◌, ◌-◌, ◌*◌, ◌^◌, ◌≤◌, List, length, take, drop}
use Rattle.flac_definitions.specs.Bits.{bits_in, number_of}

-- The front `valid` bits of the word are the bits from `at` on, and the others are 0.
pub record IsWindow (bytes : List ℕ) (at word valid : ℕ) : Type 0 where
  pub within : valid ≤ 64
  pub there : at + valid ≤ 8 * length bytes
  pub front : word ≡ number_of (take valid (drop at (bits_in bytes))) * 2 ^ (64 - valid)
