-- Codes and samples of a law, one after another.
use Rattle.std.specs.Prelude.{ℕ, ℤ, List, [], ◌∷◌}
use Rattle.codec_definitions.specs.Pcm.{sample_of}
use Rattle.codec_definitions.specs.G711.{alaw_value, alaw_code, ulaw_value, ulaw_code}
use Rattle.codec_definitions.specs.SampleCodecs.{SampleCodec, law}
use Rattle.g711.specs.declared.law.Law.{Law}
use Rattle.g711.specs.declared.law.Law.TheVariants as laws

-- the value of one of its codes
abbrev pub value_in : Law → ℕ → ℤ
value_in laws.Alaw code = alaw_value code
value_in laws.Ulaw code = ulaw_value code

-- its code of a value
abbrev pub code_in : Law → ℤ → ℕ
code_in laws.Alaw value = alaw_code value
code_in laws.Ulaw value = ulaw_code value

-- as a codec that codes each sample by itself
abbrev pub codec_of : Law → SampleCodec
codec_of l = law (value_in l) (code_in l)

-- the codes of 16-bit samples, little-endian
abbrev pub codes_of : Law → List ℕ → List ℕ
codes_of l [] = []
codes_of l (a ∷ []) = []
codes_of l (a ∷ b ∷ bytes) = code_in l (sample_of 2 (a ∷ b ∷ [])) ∷ codes_of l bytes
