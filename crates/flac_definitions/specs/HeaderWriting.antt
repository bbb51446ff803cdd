-- How a frame's header is written (RFC 9639, section 9.1); where the standard leaves a choice, it is ours.
use Rattle.std.specs.Prelude.{ℕ, zero, suc, ◌<◌, ◌≤◌, ◌+◌, ◌-◌, ◌*◌, ◌/◌, ◌%◌, ◌^◌, ◌==◌, nat_lt, nat_le, Bool, List, [], ◌∷◌, ◌++◌, if◌then◌else◌, IsTrue, ◌||◌}
use Rattle.flac_definitions.specs.Bits.{bits_of}
use Rattle.flac_definitions.specs.Sums.{bits_sum}
use Rattle.flac_definitions.specs.Header.{common_block_size, common_sample_rate}
use Rattle.flac_definitions.specs.declared.header.FrameHeader.{FrameHeader}

-- the first of some codes that stands for a number, and else another
abbrev pub code_for : (ℕ → ℕ) → ℕ → ℕ → List ℕ → ℕ
code_for meaning n other [] = other
code_for meaning n other (c ∷ cs) = if meaning c == n then c else code_for meaning n other cs

-- a block size's code in the table, or else one for a byte or for two bytes behind the coded number
abbrev pub block_size_code : ℕ → ℕ
block_size_code n =
    code_for common_block_size n (if nat_le n 256 then 6 else 7)
    (1 ∷ 2 ∷ 3 ∷ 4 ∷ 5 ∷ 8 ∷ 9 ∷ 10 ∷ 11 ∷ 12 ∷ 13 ∷ 14 ∷ 15 ∷ [])

-- a rate's code in the table, or else the one for that of the description
abbrev pub sample_rate_code : ℕ → ℕ
sample_rate_code n = code_for common_sample_rate n 0 (1 ∷ 2 ∷ 3 ∷ 4 ∷ 5 ∷ 6 ∷ 7 ∷ 8 ∷ 9 ∷ 10 ∷ 11 ∷ [])

abbrev pub depth_code : ℕ → ℕ
depth_code n = if n == 8 then 1 else if n == 16 then 4 else if n == 24 then 6 else 7

-- a coded number in its shortest form: so many bytes of six bits each behind the first (section 9.1.5)
abbrev pub further_bits : ℕ → ℕ → List Bool
further_bits zero n = []
further_bits (suc k) n = bits_of 8 (128 + n / 2 ^ (6 * k) % 64) ++ further_bits k n

abbrev pub further_count : ℕ → ℕ
further_count n =
    if nat_lt n (2 ^ 11) then 1 else if nat_lt n (2 ^ 16) then 2 else if nat_lt n (2 ^ 21) then 3
    else if nat_lt n (2 ^ 26) then 4 else 5

abbrev pub long_number_bits : ℕ → ℕ → List Bool
long_number_bits k n = bits_of 8 ((256 - 2 ^ (7 - k)) + n / 2 ^ (6 * k)) ++ further_bits k n

unfoldable pub number_bits : ℕ → List Bool
number_bits n = if nat_lt n 128 then bits_of 8 n else long_number_bits (further_count n) n

-- the block size behind the coded number, where its code says so
abbrev pub size_bits : ℕ → ℕ → List Bool
size_bits code n = if code == 6 then bits_of 8 (n - 1) else if code == 7 then bits_of 16 (n - 1) else []

-- the first 32 bits
abbrev pub code_bits : FrameHeader → List Bool
code_bits h =
    bits_of 15 0x7ffc ++ bits_of 1 0 ++ bits_of 4 (block_size_code h.block) ++ bits_of 4 (sample_rate_code h.rate)
    ++ bits_of 4 h.assignment ++ bits_of 3 (depth_code h.depth) ++ bits_of 1 0

abbrev pub front_bits : FrameHeader → List Bool
front_bits h = code_bits h ++ number_bits h.number ++ size_bits (block_size_code h.block) h.block

-- a header, with the sum of its bits (section 9.1.8)
unfoldable pub header_bits : FrameHeader → List Bool
header_bits h = front_bits h ++ bits_of 8 (bits_sum 8 0x07 (front_bits h))

-- a header that can be written: 1 to 65535 frames of 8, 16, 24 or 32 bits, an assignment that is not reserved, and a number
-- below 2 ^ 31
pub record IsWritable (h : FrameHeader) : Type 0 where
  pub some : 0 < h.block
  pub few : h.block ≤ 65535
  pub depth : IsTrue ((h.depth == 8) || (h.depth == 16) || (h.depth == 24) || (h.depth == 32))
  pub assignment : h.assignment ≤ 10
  pub number : h.number < 2 ^ 31
