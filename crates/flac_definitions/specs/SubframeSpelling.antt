-- How subframes are spelled (RFC 9639, section 9.2): a relation of the samples and the bits that spell them.
use Rattle.std.specs.Prelude.{ℕ, zero, suc, ℤ, ◌+◌, ◌-◌, ◌/◌, ◌%◌, ◌==◌, ◌&&◌, nat_lt, Bool, not, List, [], ◌++◌, length, reverse, replicate, Some}
use Rattle.flac_definitions.specs.Grammar.{IsNumber, IsGiven, IsNothing, IsUnary, InOrder, Either}
use Rattle.flac_definitions.specs.ResidualSpelling.{IsSigned, AreEach, IsResidual}
use Rattle.flac_definitions.specs.Prediction.{samples_behind, one_after_other, fixed_coefficients}
use Rattle.flac_definitions.specs.Stereo.{channel_depth}
use Rattle.flac_definitions.specs.Subframe.{with_wasted_bits}

-- samples that are kept as they are
abbrev pub AreSamples : ℕ → ℕ → List ℤ → List Bool → Type 0
AreSamples depth n = AreEach (IsSigned depth) n

-- a residual, and the samples in front of it with those that it gives
abbrev pub IsPredictor : List ℤ → ℕ → ℕ → ℕ → List ℤ → List ℤ → List Bool → Type 0
IsPredictor coefficients shift depth block front =
    InOrder (IsResidual block (length coefficients)) (λ residual.
    IsGiven (one_after_other front (samples_behind coefficients shift depth (reverse front) residual)))

abbrev pub IsFixed : ℕ → ℕ → ℕ → List ℤ → List Bool → Type 0
IsFixed order depth block =
    Either (nat_lt block order) IsNothing
    (InOrder (AreSamples depth order) (λ front. IsPredictor (fixed_coefficients order) 0 depth block front))

-- coefficients and a shift: a precision of 16 bits and a negative shift are forbidden
abbrev pub AreCoefficients : ℕ → List ℤ × ℕ → List Bool → Type 0
AreCoefficients order =
    InOrder (IsNumber 4) (λ precision. InOrder (IsNumber 5) (λ shift.
    Either (nat_lt precision 15 && nat_lt shift 16)
    (InOrder (AreSamples (precision + 1) order) (λ xs. IsGiven (Some (xs, shift)))) IsNothing))

abbrev pub IsLinear : ℕ → ℕ → ℕ → List ℤ → List Bool → Type 0
IsLinear order depth block =
    Either (nat_lt block order) IsNothing
    (InOrder (AreSamples depth order) (λ front.
    InOrder (AreCoefficients order) (λ c. IsPredictor c.0 c.1 depth block front)))

abbrev pub IsConstant : ℕ → ℕ → List ℤ → List Bool → Type 0
IsConstant depth block = InOrder (IsSigned depth) (λ x. IsGiven (Some (replicate block x)))

-- by the type in a subframe's header: the others are reserved
abbrev pub IsBody : ℕ → ℕ → ℕ → List ℤ → List Bool → Type 0
IsBody kind depth block =
    Either (kind == 0) (IsConstant depth block)
    (Either (kind == 1) (AreSamples depth block)
    (Either (nat_lt kind 8) IsNothing
    (Either (nat_lt kind 13) (IsFixed (kind - 8) depth block)
    (Either (nat_lt kind 32) IsNothing
    (IsLinear (kind - 31) depth block)))))

-- how many low bits of each sample are 0 and not kept: one fewer zeros, and a 1
abbrev pub IsWastedBits : ℕ → ℕ → List Bool → Type 0
IsWastedBits flag = Either (flag == 0) (IsGiven (Some 0)) (InOrder IsUnary (λ k. IsGiven (Some (k + 1))))

-- a subframe: a 0, its type in 6 bits, a flag, the wasted bits that it announces, and the body
abbrev pub IsSubframe : ℕ → ℕ → List ℤ → List Bool → Type 0
IsSubframe depth block =
    InOrder (IsNumber 8) (λ head. Either (not (nat_lt head 128)) IsNothing
    (InOrder (IsWastedBits (head % 2)) (λ wasted. Either (not (nat_lt wasted depth)) IsNothing
    (InOrder (IsBody (head / 2) (depth - wasted) block) (λ xs. IsGiven (Some (with_wasted_bits wasted xs)))))))

-- so many coded channels one after another, from a channel on
abbrev pub AreChannels : ℕ → ℕ → ℕ → ℕ → ℕ → List ℤ → List Bool → Type 0
AreChannels assignment depth block channel zero = IsGiven (Some [])
AreChannels assignment depth block channel (suc n) =
    InOrder (IsSubframe (channel_depth assignment depth channel) block) (λ xs.
    InOrder (AreChannels assignment depth block (channel + 1) n) (λ ys. IsGiven (Some (xs ++ ys))))
