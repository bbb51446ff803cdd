-- A-law and mu-law (ITU-T G.711). A code is a byte: it stands for a sign, an exponent and a mantissa, which say an
-- interval of magnitudes and the value that stands for all of it. Values are on the scale of 16-bit samples.
use Rattle.std.specs.Prelude.{ℕ, ℤ, pos, negsuc, neg_ℤ, Bool, true, false, not, ◌≡◌, ◌+◌, ◌-◌, ◌*◌, ◌/◌, ◌%◌, ◌^◌, ◌<◌, ◌≤◌, ◌==◌, ◌&&◌, nat_le, nat_lt, min, bit_xor, if◌then◌else◌}
use Rattle.std.specs.List.{position_or_len, range_with_len}

-- three bits and four bits of a code's seven that are no sign
abbrev pub exponent_of : ℕ → ℕ
exponent_of bits = (bits / 16) % 8

abbrev pub mantissa_of : ℕ → ℕ
mantissa_of bits = bits % 16

-- 0 is positive
abbrev pub is_negative : ℤ → Bool
is_negative (pos n) = false
is_negative (negsuc n) = true

abbrev pub signed : Bool → ℕ → ℤ
signed false n = pos n
signed true n = neg_ℤ (pos n)

abbrev pub is_same_sign : Bool → Bool → Bool
is_same_sign false other = not other
is_same_sign true other = other

-- mu-law: a code's bits are sent turned
abbrev pub ulaw_bits : ℕ → ℕ
ulaw_bits code = 255 - code

abbrev pub ulaw_is_negative : ℕ → Bool
ulaw_is_negative code = nat_le 128 (ulaw_bits code)

-- an interval is from `low` on and below `high`, and `level` stands for it; where the standard has a low end below 0 it is 0
abbrev pub ulaw_low : ℕ → ℕ → ℕ
ulaw_low e m = (8 * m + 128) * 2 ^ e - 132

abbrev pub ulaw_high : ℕ → ℕ → ℕ
ulaw_high e m = (8 * m + 136) * 2 ^ e - 132

abbrev pub ulaw_level : ℕ → ℕ → ℕ
ulaw_level e m = (8 * m + 132) * 2 ^ e - 132

-- the value that a code stands for
abbrev pub ulaw_value : ℕ → ℤ
ulaw_value code =
    let bits = ulaw_bits code in
    signed (ulaw_is_negative code) (ulaw_level (exponent_of bits) (mantissa_of bits))

-- the magnitude of a value, clipped to the greatest that an interval holds (the clip as a number is our restatement)
abbrev pub ulaw_magnitude : ℤ → ℕ
ulaw_magnitude (pos n) = min n 32635
ulaw_magnitude (negsuc n) = min (n + 1) 32635

-- a code's interval holds a magnitude
pub record IsInUlawInterval (code magnitude : ℕ) : Type 0 where
  pub low : ulaw_low (exponent_of (ulaw_bits code)) (mantissa_of (ulaw_bits code)) ≤ magnitude
  pub high : magnitude < ulaw_high (exponent_of (ulaw_bits code)) (mantissa_of (ulaw_bits code))

-- a byte of this sign whose interval holds the magnitude
pub record IsUlawCodeOf (negative : Bool) (magnitude code : ℕ) : Type 0 where
  pub byte : code < 256
  pub sign : ulaw_is_negative code ≡ negative
  pub interval : IsInUlawInterval code magnitude

-- a code of a value: of its sign, with an interval that holds its magnitude
abbrev pub IsUlawCode : ℤ → ℕ → Type 0
IsUlawCode value code = IsUlawCodeOf (is_negative value) (ulaw_magnitude value) code

-- the same as a test of a byte
abbrev pub is_ulaw_code : ℤ → ℕ → Bool
is_ulaw_code value code =
    let bits = ulaw_bits code in
    is_same_sign (is_negative value) (ulaw_is_negative code)
    && nat_le (ulaw_low (exponent_of bits) (mantissa_of bits)) (ulaw_magnitude value)
    && nat_lt (ulaw_magnitude value) (ulaw_high (exponent_of bits) (mantissa_of bits))

-- the code of a value, of which a 16-bit value has one alone: the byte among all that passes
unfoldable pub ulaw_code : ℤ → ℕ
ulaw_code value = position_or_len (is_ulaw_code value) (range_with_len 0 256)

-- A-law: every other of a code's bits is sent turned
abbrev pub alaw_bits : ℕ → ℕ
alaw_bits code = bit_xor code 0x55

abbrev pub alaw_is_negative : ℕ → Bool
alaw_is_negative code = not (nat_le 128 (alaw_bits code))

abbrev pub alaw_low : ℕ → ℕ → ℕ
alaw_low e m = if e == 0 then 16 * m else (16 * m + 256) * 2 ^ (e - 1)

abbrev pub alaw_high : ℕ → ℕ → ℕ
alaw_high e m = if e == 0 then 16 * m + 16 else (16 * m + 272) * 2 ^ (e - 1)

abbrev pub alaw_level : ℕ → ℕ → ℕ
alaw_level e m = if e == 0 then 16 * m + 8 else (16 * m + 264) * 2 ^ (e - 1)

-- the value that a code stands for
abbrev pub alaw_value : ℕ → ℤ
alaw_value code =
    let bits = alaw_bits code in
    signed (alaw_is_negative code) (alaw_level (exponent_of bits) (mantissa_of bits))

-- the magnitude of a value: of a negative one, one less than how far it is below 0
abbrev pub alaw_magnitude : ℤ → ℕ
alaw_magnitude (pos n) = n
alaw_magnitude (negsuc n) = n

-- a code's interval holds a magnitude
pub record IsInAlawInterval (code magnitude : ℕ) : Type 0 where
  pub low : alaw_low (exponent_of (alaw_bits code)) (mantissa_of (alaw_bits code)) ≤ magnitude
  pub high : magnitude < alaw_high (exponent_of (alaw_bits code)) (mantissa_of (alaw_bits code))

-- a byte of this sign whose interval holds the magnitude
pub record IsAlawCodeOf (negative : Bool) (magnitude code : ℕ) : Type 0 where
  pub byte : code < 256
  pub sign : alaw_is_negative code ≡ negative
  pub interval : IsInAlawInterval code magnitude

-- a code of a value: of its sign, with an interval that holds its magnitude
abbrev pub IsAlawCode : ℤ → ℕ → Type 0
IsAlawCode value code = IsAlawCodeOf (is_negative value) (alaw_magnitude value) code

-- the same as a test of a byte
abbrev pub is_alaw_code : ℤ → ℕ → Bool
is_alaw_code value code =
    let bits = alaw_bits code in
    is_same_sign (is_negative value) (alaw_is_negative code)
    && nat_le (alaw_low (exponent_of bits) (mantissa_of bits)) (alaw_magnitude value)
    && nat_lt (alaw_magnitude value) (alaw_high (exponent_of bits) (mantissa_of bits))

-- the code of a value, of which a 16-bit value has one alone: the byte among all that passes
unfoldable pub alaw_code : ℤ → ℕ
alaw_code value = position_or_len (is_alaw_code value) (range_with_len 0 256)
