-- A-law: each magnitude has one code of each sign.
use Rattle.std.proofs.Common.{ℕ, suc, ◌≡◌, ◌≤◌, ◌<◌, ◌+◌, ◌%◌, cond, true, refl, bit_xor, arith}
use Rattle.codec_definitions.specs.G711.{exponent_of, mantissa_of, is_negative, alaw_bits, alaw_is_negative, alaw_low, alaw_high, alaw_value, alaw_magnitude, IsAlawCodeOf, IsAlawCode, is_alaw_code, alaw_code}
use Rattle.g711.specs.Segments.{IsInSegment}
use Rattle.g711.specs.Laws.{AlawEncodes, AlawEncodesOnce}
use Rattle.g711.proofs.Codes.{Coding, IsLaw, all_below, each_below, passing, encodes, encodes_once}

abbrev coding : Coding
coding = record {
  sign = alaw_is_negative;
  low = λ c. alaw_low (exponent_of (alaw_bits c)) (mantissa_of (alaw_bits c));
  high = λ c. alaw_high (exponent_of (alaw_bits c)) (mantissa_of (alaw_bits c));
  place = λ c. alaw_bits c % 128;
  code = λ negative i. bit_xor (cond negative 0 128 + i) 0x55;
}

pub alaw : IsLaw coding IsAlawCodeOf
unfolding all_below
alaw = record {
  codes = refl;
  places = refl;
  tells = λ negative k c byte p. record { byte = byte; sign = p.0; interval = record { low = p.1; high = p.2 } };
  told = λ negative k c x. (x.byte, x.sign, x.interval.low, x.interval.high);
}

pub alaw_encodes_once : AlawEncodesOnce
unfolding alaw_code
alaw_encodes_once value code x = encodes_once alaw (is_negative value) (alaw_magnitude value) code x

pub alaw_encodes : AlawEncodes
unfolding alaw_code
alaw_encodes value small = encodes alaw (is_negative value) (alaw_magnitude value) (omega (arith, small))

-- each code is that of its value
own_codes : all_below 256 (λ c. is_alaw_code (alaw_value c) c) ≡ true
unfolding all_below
own_codes = refl

pub own_code : (code : ℕ) → code < 256 → IsAlawCode (alaw_value code) code
own_code code byte = passing alaw (is_negative (alaw_value code)) (alaw_magnitude (alaw_value code)) code byte (each_below 256 code (λ c. is_alaw_code (alaw_value c) c) own_codes byte)

-- above the first sixteen, a segment is an A-law interval
pub later_interval : (e m k : ℕ) → e < 8 → m < 16 → 256 ≤ k → IsInSegment e m k → (alaw_low e m ≤ k) × (k < alaw_high e m)
later_interval (suc (suc (suc (suc (suc (suc (suc (suc e)))))))) m k se sm least s = absurd (omega arith)
later_interval e m k se sm least s = (omega arith, omega arith)
