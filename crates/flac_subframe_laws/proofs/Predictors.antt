-- The samples behind the first ones are those that a fixed predictor and its residual give.
use Rattle.std.proofs.Common.{ℕ, zero, suc, ℤ, pos, negsuc, ◌≡◌, ◌<◌, ◌≤◌, ◌+◌, ◌-◌, ◌^◌, ◌+ℤ◌, ◌-ℤ◌, Bool, true, false, cond, List, [], ◌∷◌, length, take, drop, drop-cons, map, reverse, Some, None, refl, ap, sym, ◌∙◌, arith}
use Rattle.std.specs.Prelude.{neg_ℤ, ◌≤ℤ◌, ◌<ℤ◌, ◌&&◌, int_le, int_lt}
use Rattle.std.specs.List.{range_with_len}
use Rattle.std.specs.Int.{int_shr}
use Rattle.std.proofs.Math.Seq.{take-suc}
use Rattle.std.proofs.lemmas.Bool.{lt-ltb, le-leb}
use Rattle.std.proofs.lemmas.Int.{ints}
use Rattle.std.proofs.lemmas.List.{reverse-append, drop_all}
use Rattle.flac_definitions.specs.Prediction.{sum_of_products, prediction, fits_depth, with_sample, samples_behind, fixed_coefficients}
use Rattle.flac_definitions.specs.FixedPredictors.{at, predicted, residual_at, residuals}
use Rattle.flac_definitions.specs.SubframeWriting.{HasDepth, HaveDepth}

-- ---- the past

-- the samples before one, the last first
abbrev past : List ℤ → ℕ → List ℤ
past xs i = reverse (take i xs)

past_next : (xs : List ℤ) (i : ℕ) → i < length xs → past xs (suc i) ≡ at xs i ∷ past xs i
past_next xs i lt = ap reverse (take-suc xs i (pos 0) lt) ∙ reverse-append (take i xs) (at xs i ∷ [])

shift_none : (v : ℤ) → int_shr v 0 ≡ v
shift_none (pos n) = omega (arith, ints)
shift_none (negsuc n) = omega (arith, ints)

-- ---- predictions

abbrev sum_at : ℕ → List ℤ → ℕ → ℤ
sum_at order xs i = sum_of_products (fixed_coefficients order) (past xs i)

sum_1 : (xs : List ℤ) (k : ℕ) → k + 1 ≤ length xs → sum_at 1 xs (suc k) ≡ predicted 1 xs (suc k)
sum_1 xs k le =
    let i : suc k - 1 ≡ k = omega arith in
    ap (sum_of_products (pos 1 ∷ [])) (past_next xs k (omega (arith, le))) ∙ rw i (omega (arith, ints))

sum_2 : (xs : List ℤ) (k : ℕ) → k + 2 ≤ length xs → sum_at 2 xs (suc (suc k)) ≡ predicted 2 xs (suc (suc k))
sum_2 xs k le =
    let i : suc (suc k) - 1 ≡ suc k = omega arith in
    let j : suc (suc k) - 2 ≡ k = omega arith in
    ap (sum_of_products (pos 2 ∷ negsuc 0 ∷ [])) (past_next xs (suc k) (omega (arith, le)) ∙ ap (λ (l : List ℤ). at xs (suc k) ∷ l) (past_next xs k (omega (arith, le)))) ∙ rw (i, j) (omega (arith, ints))

sum_3 : (xs : List ℤ) (k : ℕ) → k + 3 ≤ length xs → sum_at 3 xs (suc (suc (suc k))) ≡ predicted 3 xs (suc (suc (suc k)))
sum_3 xs k le =
    let a : suc (suc (suc k)) - 1 ≡ suc (suc k) = omega arith in
    let b : suc (suc (suc k)) - 2 ≡ suc k = omega arith in
    let c : suc (suc (suc k)) - 3 ≡ k = omega arith in
    ap (sum_of_products (pos 3 ∷ negsuc 2 ∷ pos 1 ∷ []))
    (past_next xs (suc (suc k)) (omega (arith, le)) ∙ ap (λ (l : List ℤ). at xs (suc (suc k)) ∷ l) (past_next xs (suc k) (omega (arith, le)) ∙ ap (λ (l : List ℤ). at xs (suc k) ∷ l) (past_next xs k (omega (arith, le)))))
    ∙ rw (a, b, c) (omega (arith, ints))

sum_4 : (xs : List ℤ) (k : ℕ) → k + 4 ≤ length xs → sum_at 4 xs (suc (suc (suc (suc k)))) ≡ predicted 4 xs (suc (suc (suc (suc k))))
sum_4 xs k le =
    let a : suc (suc (suc (suc k))) - 1 ≡ suc (suc (suc k)) = omega arith in
    let b : suc (suc (suc (suc k))) - 2 ≡ suc (suc k) = omega arith in
    let c : suc (suc (suc (suc k))) - 3 ≡ suc k = omega arith in
    let d : suc (suc (suc (suc k))) - 4 ≡ k = omega arith in
    ap (sum_of_products (pos 4 ∷ negsuc 5 ∷ pos 4 ∷ negsuc 0 ∷ []))
    (past_next xs (suc (suc (suc k))) (omega (arith, le)) ∙ ap (λ (l : List ℤ). at xs (suc (suc (suc k))) ∷ l) (past_next xs (suc (suc k)) (omega (arith, le))
    ∙ ap (λ (l : List ℤ). at xs (suc (suc k)) ∷ l) (past_next xs (suc k) (omega (arith, le)) ∙ ap (λ (l : List ℤ). at xs (suc k) ∷ l) (past_next xs k (omega (arith, le))))))
    ∙ rw (a, b, c, d) (omega (arith, ints))

sum_is : (order : ℕ) (xs : List ℤ) (i : ℕ) → order ≤ 4 → order ≤ i → i ≤ length xs → sum_at order xs i ≡ predicted order xs i
sum_is zero xs i small from to = refl
sum_is (suc zero) xs (suc k) small from to = sum_1 xs k (omega (arith, to))
sum_is (suc (suc zero)) xs (suc (suc k)) small from to = sum_2 xs k (omega (arith, to))
sum_is (suc (suc (suc zero))) xs (suc (suc (suc k))) small from to = sum_3 xs k (omega (arith, to))
sum_is (suc (suc (suc (suc zero)))) xs (suc (suc (suc (suc k)))) small from to = sum_4 xs k (omega (arith, to))
sum_is (suc (suc (suc (suc (suc o))))) xs i small from to = absurd (omega (arith, small))
sum_is (suc o) xs zero small from to = absurd (omega (arith, from))
sum_is (suc (suc o)) xs (suc zero) small from to = absurd (omega (arith, from))
sum_is (suc (suc (suc o))) xs (suc (suc zero)) small from to = absurd (omega (arith, from))
sum_is (suc (suc (suc (suc o)))) xs (suc (suc (suc zero))) small from to = absurd (omega (arith, from))

predicted_is : (order : ℕ) (xs : List ℤ) (i : ℕ) → order ≤ 4 → order ≤ i → i ≤ length xs → prediction (fixed_coefficients order) 0 (past xs i) ≡ predicted order xs i
predicted_is order xs i small from to = shift_none (sum_at order xs i) ∙ sum_is order xs i small from to

pub coefficient_count : (order : ℕ) → order ≤ 4 → length (fixed_coefficients order) ≡ order
coefficient_count zero small = refl
coefficient_count (suc zero) small = refl
coefficient_count (suc (suc zero)) small = refl
coefficient_count (suc (suc (suc zero))) small = refl
coefficient_count (suc (suc (suc (suc zero)))) small = refl
coefficient_count (suc (suc (suc (suc (suc o))))) small = absurd (omega (arith, small))

-- ---- samples

at_most : (a b : ℤ) → a ≤ℤ b → int_le a b ≡ true
at_most (pos m) (pos n) h = le-leb m n (omega (arith, ints, h))
at_most (pos m) (negsuc n) h = absurd (omega (arith, ints, h))
at_most (negsuc m) (pos n) h = refl
at_most (negsuc m) (negsuc n) h = le-leb n m (omega (arith, ints, h))

below : (a b : ℤ) → a <ℤ b → int_lt a b ≡ true
below (pos m) (pos n) h = lt-ltb m n (omega (arith, ints, h))
below (pos m) (negsuc n) h = absurd (omega (arith, ints, h))
below (negsuc m) (pos n) h = refl
below (negsuc m) (negsuc n) h = lt-ltb n m (omega (arith, ints, h))

both : (a b : Bool) → a ≡ true → b ≡ true → (a && b) ≡ true
both true true x y = refl
both true false x y = absurd cc
both false b x y = absurd cc

fitting : (depth : ℕ) (v : ℤ) → HasDepth depth v → fits_depth depth v ≡ true
fitting depth v h = both (int_le (neg_ℤ (pos (2 ^ (depth - 1)))) v) (int_lt v (pos (2 ^ (depth - 1)))) (at_most (neg_ℤ (pos (2 ^ (depth - 1)))) v h.low) (below v (pos (2 ^ (depth - 1))) h.high)

back : (p v : ℤ) → p +ℤ (v -ℤ p) ≡ v
back p v = omega (arith, ints)

next_sample : (coefficients : List ℤ) (depth : ℕ) (before rest : List ℤ) (r s : ℤ) (tail : List ℤ) → prediction coefficients 0 before +ℤ r ≡ s → fits_depth depth s ≡ true → samples_behind coefficients 0 depth (s ∷ before) rest ≡ Some tail
    → samples_behind coefficients 0 depth before (r ∷ rest) ≡ Some (s ∷ tail)
next_sample coefficients depth before rest r s tail is fine more =
    ap (λ (t : ℤ). cond (fits_depth depth t) (with_sample t (samples_behind coefficients 0 depth (t ∷ before) rest)) None) is
    ∙ (ap (λ (b : Bool). cond b (with_sample s (samples_behind coefficients 0 depth (s ∷ before) rest)) None) fine ∙ ap (with_sample s) more)

-- from a place on
behind : (order depth : ℕ) (xs : List ℤ) (i m : ℕ) → order ≤ 4 → HaveDepth depth xs → order ≤ i → i + m ≡ length xs
    → samples_behind (fixed_coefficients order) 0 depth (past xs i) (map (λ j. residual_at order xs (order + j)) (range_with_len (i - order) m)) ≡ Some (drop i xs)
behind order depth xs i zero small h from end =
    ap (λ (l : List ℤ). Some l) (sym (drop_all i xs (omega (arith, end))))
behind order depth xs i (suc m) small h from end =
    let lt : i < length xs = omega (arith, end) in
    let place : order + (i - order) ≡ i = omega (arith, from) in
    let next : i - order + 1 ≡ suc i - order = omega (arith, from) in
    let r : ℤ = residual_at order xs (order + (i - order)) in
    let rest : List ℤ = map (λ j. residual_at order xs (order + j)) (range_with_len (i - order + 1) m) in
    let is : prediction (fixed_coefficients order) 0 (past xs i) +ℤ r ≡ at xs i =
    ap (λ (p : ℤ). p +ℤ r) (predicted_is order xs i small from (omega (arith, lt))) ∙ (ap (λ (k : ℕ). predicted order xs i +ℤ residual_at order xs k) place ∙ back (predicted order xs i) (at xs i)) in
    let more : samples_behind (fixed_coefficients order) 0 depth (at xs i ∷ past xs i) rest ≡ Some (drop (suc i) xs) =
    ap (λ (l : List ℤ). samples_behind (fixed_coefficients order) 0 depth l rest) (sym (past_next xs i lt))
    ∙ (ap (λ (k : ℕ). samples_behind (fixed_coefficients order) 0 depth (past xs (suc i)) (map (λ j. residual_at order xs (order + j)) (range_with_len k m))) next
    ∙ behind order depth xs (suc i) m small h (omega (arith, from)) (omega (arith, end))) in
    next_sample (fixed_coefficients order) depth (past xs i) rest r (at xs i) (drop (suc i) xs) is (fitting depth (at xs i) (h i lt)) more
    ∙ ap (λ (l : List ℤ). Some l) (sym (drop-cons xs i (pos 0) lt))

pub samples_given : (order depth : ℕ) (xs : List ℤ) → order ≤ 4 → order ≤ length xs → HaveDepth depth xs
    → samples_behind (fixed_coefficients order) 0 depth (reverse (take order xs)) (residuals order xs) ≡ Some (drop order xs)
samples_given order depth xs small from h =
    let start : 0 ≡ order - order = omega arith in
    ap (λ (k : ℕ). samples_behind (fixed_coefficients order) 0 depth (past xs order) (map (λ j. residual_at order xs (order + j)) (range_with_len k (length xs - order)))) start
    ∙ behind order depth xs order (length xs - order) small h (omega arith) (omega (arith, from))
