-- Bits that are written in order (RFC 9639, section 5).
use Rattle.std.specs.Prelude.{ℕ, ◌≡◌, ◌≤◌, ◌<◌, ◌+◌, ◌^◌, Bool, List, ◌++◌}
use Rattle.flac_definitions.specs.Bits.{bits_of, bits_in}

-- bits that were there, with a front of those that were to follow: what a want of memory leaves
pub record IsBegun (before bits after : List Bool) : Type 0 where
  pub front : List Bool
  pub back : List Bool
  pub whole : bits ≡ front ++ back
  pub kept : after ≡ before ++ front

-- whole bytes, and some bits more
abbrev pub written : List ℕ → ℕ → ℕ → List Bool
written bytes used last = bits_in bytes ++ bits_of used last

-- the bits behind the whole bytes are fewer than a word, and there is room for them
pub record IsPending (used last count capacity : ℕ) : Type 0 where
  pub short : used ≤ 63
  pub small : last < 2 ^ used
  pub room : 0 < used → count + 8 ≤ capacity
