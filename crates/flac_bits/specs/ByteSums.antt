-- Sums byte by byte.
use Rattle.std.specs.Prelude.{ℕ, List, [], ◌∷◌, bit_xor}
use Rattle.flac_definitions.specs.Bits.{bits_of}
use Rattle.flac_definitions.specs.Sums.{remainder_after}

-- as many coefficients 0 behind a remainder
abbrev pub after_zeros : ℕ → ℕ → ℕ → ℕ → ℕ
after_zeros width low n remainder = remainder_after width low remainder (bits_of n 0)

-- one more byte behind a sum
abbrev pub after_byte : ℕ → ℕ → ℕ → ℕ → ℕ
after_byte width low sum byte = bit_xor (after_zeros width low 8 sum) (after_zeros width low width byte)

-- more bytes behind a sum
abbrev pub after_bytes : ℕ → ℕ → ℕ → List ℕ → ℕ
after_bytes width low sum [] = sum
after_bytes width low sum (b ∷ bs) = after_bytes width low (after_byte width low sum b) bs
