-- The sums that guard FLAC's headers and frames (RFC 9639, sections 9.1.8 and 9.3): remainders of polynomials over two
-- elements, bit by bit. A polynomial is the number of its coefficients, the greatest power first.
use Rattle.std.specs.Prelude.{ℕ, ◌+◌, ◌*◌, ◌/◌, ◌%◌, ◌^◌, Bool, true, false, List, [], ◌∷◌, ◌++◌, bit_xor}
use Rattle.flac_definitions.specs.Bits.{bits_of, bits_in}

-- One more coefficient behind a remainder: where that has x ^ width, the divisor, which is x ^ width and `low`, is taken off.
abbrev pub remainder_with : ℕ → ℕ → ℕ → ℕ → ℕ
remainder_with width low remainder next =
    let longer = 2 * remainder + next in
    bit_xor (longer % 2 ^ width) ((longer / 2 ^ width) * low)

abbrev pub coefficient : Bool → ℕ
coefficient true = 1
coefficient false = 0

-- the remainder of these coefficients behind a remainder
unfoldable pub remainder_after : ℕ → ℕ → ℕ → List Bool → ℕ
remainder_after width low remainder [] = remainder
remainder_after width low remainder (b ∷ bs) = remainder_after width low (remainder_with width low remainder (coefficient b)) bs

-- the remainder of the polynomial of some bits times x ^ width
abbrev pub bits_sum : ℕ → ℕ → List Bool → ℕ
bits_sum width low bits = remainder_after width low 0 (bits ++ bits_of width 0)

-- the same of the bits of bytes
abbrev pub sum_of : ℕ → ℕ → List ℕ → ℕ
sum_of width low bytes = bits_sum width low (bits_in bytes)

-- the sum of a frame header's bytes, by x ^ 8 + x ^ 2 + x + 1 (RFC 9639, section 9.1.8)
abbrev pub crc8_of : List ℕ → ℕ
crc8_of bytes = sum_of 8 0x07 bytes

-- the sum of a frame's bytes, by x ^ 16 + x ^ 15 + x ^ 2 + 1 (RFC 9639, section 9.3)
abbrev pub crc16_of : List ℕ → ℕ
crc16_of bytes = sum_of 16 0x8005 bytes
