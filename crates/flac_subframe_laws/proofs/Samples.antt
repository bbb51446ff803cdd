-- Samples that are written are spelled.
use Rattle.std.proofs.Common.{ℕ, zero, suc, ℤ, pos, negsuc, ◌≡◌, ◌<◌, ◌≤◌, ◌-◌, ◌^◌, Bool, true, false, cond, List, [], ◌∷◌, length, replicate, Some, refl, ap, sym, ◌∙◌, arith}
use Rattle.std.specs.Prelude.{nat_lt, neg_ℤ, ◌≤ℤ◌, ◌<ℤ◌}
use Rattle.std.specs.List.{flat_map}
use Rattle.std.specs.Ordering.{int_eq}
use Rattle.std.proofs.Math.Nat.{pow-suc}
use Rattle.std.proofs.lemmas.Bool.{lt-ltb, le-ltb}
use Rattle.std.proofs.lemmas.Int.{ints}
use Rattle.std.proofs.lemmas.Bool.Decides.{Decides-int_eq}
use Rattle.flac_definitions.specs.Bits.{bits_of}
use Rattle.flac_definitions.specs.Residual.{signed_number}
use Rattle.flac_definitions.specs.ResidualSpelling.{IsSigned, AreEach}
use Rattle.flac_definitions.specs.Grammar.{IsNumber, IsGiven, InOrder}
use Rattle.flac_definitions.specs.SubframeSpelling.{AreSamples, IsConstant}
use Rattle.flac_write.specs.SpellingLaws.{in_order, in_order_given}
use Rattle.flac_definitions.specs.FixedPredictors.{at}
use Rattle.flac_definitions.specs.SubframeWriting.{twos_complement, sample_bits, HasDepth, HaveDepth}
use Rattle.flac_definitions.specs.Candidates.{are_all}

abbrev some : ℤ → Rattle.std.specs.Prelude.Option ℤ
some v = Some v

-- a sample as a number, and back
record IsCoded (depth : ℕ) (v : ℤ) : Type 0 where
  small : twos_complement depth v < 2 ^ depth
  back : signed_number depth (twos_complement depth v) ≡ v

half : (size : ℕ) → 2 ^ (suc size - 1) ≡ 2 ^ size
half size = let e : suc size - 1 ≡ size = omega arith in ap (λ (k : ℕ). 2 ^ k) e

coded : (size : ℕ) (v : ℤ) → HasDepth (suc size) v → IsCoded (suc size) v
coded size (pos n) h =
    let few : n < 2 ^ size = omega (arith, ints, h.high, half size) in
    record {
      small = omega (arith, few, pow-suc 2 size);
      back = ap (λ (b : Bool). cond b (pos n) (negsuc (2 ^ suc size - 1 - n))) (lt-ltb n (2 ^ size) few);
    }
coded size (negsuc n) h =
    let few : n < 2 ^ size = omega (arith, ints, h.low, half size) in
    let m : ℕ = 2 ^ suc size - 1 - n in
    let much : 2 ^ size ≤ m = omega (arith, few, pow-suc 2 size) in
    let again : 2 ^ suc size - 1 - m ≡ n = omega (arith, few, pow-suc 2 size) in
    record {
      small = omega (arith, few, pow-suc 2 size);
      back = ap (λ (b : Bool). cond b (pos m) (negsuc (2 ^ suc size - 1 - m))) (le-ltb m (2 ^ size) much) ∙ ap negsuc again;
    }

coded_at : (depth : ℕ) (v : ℤ) → 1 ≤ depth → HasDepth depth v → IsCoded depth v
coded_at zero v none h = absurd (omega (arith, none))
coded_at (suc size) v positive h = coded size v h

pub signed_is : (depth : ℕ) (v : ℤ) → 1 ≤ depth → HasDepth depth v → IsSigned depth v (sample_bits depth v)
signed_is depth v positive h =
    let c = coded_at depth v positive h in
    let n : ℕ = twos_complement depth v in
    in_order_given (IsNumber depth) (λ m. IsGiven (Some (signed_number depth m))) n v (bits_of depth n) (c.small, refl) (ap some c.back, refl)

pub samples_are : (depth : ℕ) (xs : List ℤ) → 1 ≤ depth → HaveDepth depth xs → AreSamples depth (length xs) xs (flat_map (sample_bits depth) xs)
samples_are depth [] positive h = (refl, refl)
samples_are depth (x ∷ xs) positive h =
    in_order (IsSigned depth) (λ y. InOrder (AreEach (IsSigned depth) (length xs)) (λ ys. IsGiven (Some (y ∷ ys)))) x (x ∷ xs) (sample_bits depth x) (flat_map (sample_bits depth) xs)
    (signed_is depth x positive (h 0 (omega arith)))
    (in_order_given (AreEach (IsSigned depth) (length xs)) (λ ys. IsGiven (Some (x ∷ ys))) xs (x ∷ xs) (flat_map (sample_bits depth) xs) (samples_are depth xs positive (λ j lt. h (suc j) (omega (arith, lt)))) (refl, refl))

-- ---- samples that are all one

all_one : (x : ℤ) (xs : List ℤ) → are_all x xs ≡ true → replicate (length xs) x ≡ xs
all_one x [] h = refl
all_one x (y ∷ ys) h = next (int_eq y x) (Decides-int_eq y x).0 h (all_one x ys)
  where
    next : (b : Bool) → (b ≡ true → y ≡ x) → cond b (are_all x ys) false ≡ true → (are_all x ys ≡ true → replicate (length ys) x ≡ ys) → x ∷ replicate (length ys) x ≡ y ∷ ys
    next true same rest more = ap (λ (z : ℤ). z ∷ replicate (length ys) x) (sym (same refl)) ∙ ap (λ (zs : List ℤ). y ∷ zs) (more rest)
    next false same rest more = absurd cc

pub constant_is : (depth : ℕ) (xs : List ℤ) → 1 ≤ depth → 0 < length xs → HaveDepth depth xs → are_all (at xs 0) xs ≡ true → IsConstant depth (length xs) xs (sample_bits depth (at xs 0))
constant_is depth xs positive non_empty h same =
    in_order_given (IsSigned depth) (λ x. IsGiven (Some (replicate (length xs) x))) (at xs 0) xs (sample_bits depth (at xs 0)) (signed_is depth (at xs 0) positive (h 0 non_empty)) (ap (λ (zs : List ℤ). Some zs) (all_one (at xs 0) xs same), refl)
