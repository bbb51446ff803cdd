-- mu-law: each magnitude has one code of each sign.
use Rattle.std.proofs.Common.{ℕ, ℤ, pos, negsuc, ◌≡◌, ◌<◌, ◌-◌, ◌%◌, ◌==◌, ◌||◌, ◌⊎◌, sym, cond, true, inl, inr, refl, arith}
use Rattle.std.proofs.lemmas.Bool.{eqb-true, or_cases}
use Rattle.codec_definitions.specs.G711.{exponent_of, mantissa_of, is_negative, ulaw_bits, ulaw_is_negative, ulaw_low, ulaw_high, ulaw_value, ulaw_magnitude, IsUlawCodeOf, IsUlawCode, is_ulaw_code, ulaw_code}
use Rattle.g711.specs.Laws.{UlawEncodes, UlawEncodesOnce, UlawDecodesWithin, UlawComesBack}
use Rattle.g711.proofs.Codes.{Coding, IsLaw, all_below, each_below, passing, encodes, encodes_once}

abbrev coding : Coding
coding = record {
  sign = ulaw_is_negative;
  low = λ c. ulaw_low (exponent_of (ulaw_bits c)) (mantissa_of (ulaw_bits c));
  high = λ c. ulaw_high (exponent_of (ulaw_bits c)) (mantissa_of (ulaw_bits c));
  place = λ c. ulaw_bits c % 128;
  code = λ negative i. cond negative 127 255 - i;
}

pub ulaw : IsLaw coding IsUlawCodeOf
unfolding all_below
ulaw = record {
  codes = refl;
  places = refl;
  tells = λ negative k c byte p. record { byte = byte; sign = p.0; interval = record { low = p.1; high = p.2 } };
  told = λ negative k c x. (x.byte, x.sign, x.interval.low, x.interval.high);
}

pub ulaw_encodes_once : UlawEncodesOnce
unfolding ulaw_code
ulaw_encodes_once value code x = encodes_once ulaw (is_negative value) (ulaw_magnitude value) code x

clipped : (value : ℤ) → ulaw_magnitude value < 32636
clipped (pos n) = omega arith
clipped (negsuc n) = omega arith

pub ulaw_encodes : UlawEncodes
unfolding ulaw_code
ulaw_encodes value = encodes ulaw (is_negative value) (ulaw_magnitude value) (clipped value)

-- each code is that of its value, but for the negative one of 0
own_codes : all_below 256 (λ c. (c == 0x7F) || is_ulaw_code (ulaw_value c) c) ≡ true
unfolding all_below
own_codes = refl

own_code : (code : ℕ) → code < 256 → (code ≡ 0x7F) ⊎ IsUlawCode (ulaw_value code) code
own_code code byte = elim (or_cases (code == 0x7F) (is_ulaw_code (ulaw_value code) code) (each_below 256 code (λ c. (c == 0x7F) || is_ulaw_code (ulaw_value c) c) own_codes byte)) [
  | inl e ↦ inl (eqb-true code 0x7F e)
  | inr h ↦ inr (passing ulaw (is_negative (ulaw_value code)) (ulaw_magnitude (ulaw_value code)) code byte h)
]

pub ulaw_decodes_within : UlawDecodesWithin
ulaw_decodes_within code byte = elim (own_code code byte) [ inl e ↦ rw e (record { low = omega arith; high = omega arith }) | inr own ↦ own.interval ]

pub ulaw_comes_back : UlawComesBack
ulaw_comes_back code byte other = elim (own_code code byte) [ inl e ↦ absurd (other e) | inr own ↦ sym (ulaw_encodes_once (ulaw_value code) code own) ]
