-- Subframes that are written spell their samples.
use Rattle.std.proofs.Common.{ℕ, zero, suc, ℤ, pos, ◌≡◌, ◌<◌, ◌≤◌, ◌+◌, ◌-◌, ◌*◌, ◌/◌, ◌%◌, ◌^◌, ◌*ℤ◌, not, Bool, true, false, cond, List, [], ◌∷◌, ◌++◌, append_assoc, length, length-take-le, take, map, reverse, slice_index, Some, refl, ap, sym, subst, ◌∙◌, arith}
use Rattle.std.specs.Prelude.{nat_lt, ◌==◌}
use Rattle.std.specs.List.{All, AllByRecursion, flat_map, range_with_len}
use Rattle.std.proofs.Math.IntN.{one, *ℤ-one}
use Rattle.std.proofs.Math.Nat.{div-le_self}
use Rattle.std.proofs.lemmas.List.{get_or-take, take-append-drop}
use Rattle.std.proofs.lemmas.List.FromFn.{get_or-map-range_with_len, length-map-range_with_len}
use Rattle.std.proofs.lemmas.List.Elements.{All-from_recursion}
use Rattle.std.proofs.lemmas.Bool.{and_parts, lt-ltb, le-ltb, ltb-true, eq-eqb}
use Rattle.flac_definitions.specs.Bits.{bits_of}
use Rattle.flac_definitions.specs.Grammar.{IsNumber, IsGiven, IsNothing, Reads}
use Rattle.flac_definitions.specs.Prediction.{samples_behind, fixed_coefficients, one_after_other}
use Rattle.flac_definitions.specs.ResidualSpelling.{IsInRange, IsResidual, folded_value}
use Rattle.flac_definitions.specs.Subframe.{subframe_at, with_wasted_bits}
use Rattle.flac_definitions.specs.SubframeSpelling.{AreSamples, IsPredictor, IsFixed, IsBody, IsSubframe}
use Rattle.flac_write.specs.SpellingLaws.{in_order, in_order_given, one_of, other_of}
use Rattle.flac_definitions.specs.Plans.{part_of, cost, first_least, best_parameter, plan_parameters}
use Rattle.flac_definitions.specs.ResidualWriting.{residual_bits}
use Rattle.flac_plans.specs.ResidualLaws as plan
use Rattle.flac_definitions.specs.FixedPredictors.{at, residual_at, residuals, folded_residual, is_in_range, are_in_range}
use Rattle.flac_definitions.specs.SubframeWriting.{sample_bits, HasDepth, HaveDepth, subframe_bits}
use Rattle.flac_definitions.specs.declared.candidate.Candidate.{Candidate}
use Rattle.flac_definitions.specs.declared.candidate.Candidate.TheVariants.{Constant, Verbatim, Fixed}
use Rattle.flac_subframe_laws.specs.Laws.{IsCandidate, IsWritable, WrittenSubframesAreRead}
use Rattle.flac_subframe_laws.proofs.Samples.{samples_are, constant_is}
use Rattle.flac_subframe_laws.proofs.Predictors.{coefficient_count, samples_given}
use Rattle.flac_subframe_laws.proofs.Listed.{all_listed, best_is}

-- ---- the header

times_one : (v : ℤ) → v *ℤ pos 1 ≡ v
unfolding one
times_one v = *ℤ-one v

none_wasted : (xs : List ℤ) → with_wasted_bits 0 xs ≡ xs
none_wasted [] = refl
none_wasted (x ∷ xs) = ap (λ (y : ℤ). y ∷ with_wasted_bits 0 xs) (times_one x) ∙ ap (λ (ys : List ℤ). x ∷ ys) (none_wasted xs)

not_false : (b : Bool) → b ≡ true → not b ≡ false
not_false true e = refl
not_false false e = absurd cc

-- a body behind a header with no wasted bits
with_head : (head kind depth block : ℕ) (xs : List ℤ) (body : List Bool) → head < 128 → head % 2 ≡ 0 → head / 2 ≡ kind → 1 ≤ depth → IsBody kind depth block xs body → IsSubframe depth block xs (bits_of 8 head ++ body)
with_head head kind depth block xs body small even half positive h =
    let left : depth - 0 ≡ depth = omega arith in
    let whole : IsBody (head / 2) (depth - 0) block xs body = rw (half, left) h in
    in_order (IsNumber 8) _ head xs (bits_of 8 head) body (omega (arith, small), refl)
    (other_of (not (nat_lt head 128)) IsNothing _ xs body (not_false (nat_lt head 128) (lt-ltb head 128 small))
    (record {
      value = 0;
      front = [];
      back = body;
      first = one_of (head % 2 == 0) (IsGiven (Some 0)) _ 0 [] (eq-eqb (head % 2) 0 even) (refl, refl);
      second = other_of (not (nat_lt 0 depth)) IsNothing _ xs body (not_false (nat_lt 0 depth) (lt-ltb 0 depth (omega (arith, positive))))
          (in_order_given (IsBody (head / 2) (depth - 0) block) (λ ys. IsGiven (Some (with_wasted_bits 0 ys))) xs xs body whole (ap (λ (ys : List ℤ). Some ys) (none_wasted xs), refl));
      whole = refl;
    }))

-- ---- fixed predictors

in_range : (vs : List ℤ) → are_in_range vs ≡ true → All IsInRange vs
in_range vs h = All-from_recursion IsInRange vs (each vs h)
  where
    each : (ws : List ℤ) → are_in_range ws ≡ true → AllByRecursion IsInRange ws
    each [] e = tt
    each (w ∷ ws) e = by (is_in_range w) refl e (each ws)
      where
        by : (b : Bool) → is_in_range w ≡ b → cond b (are_in_range ws) false ≡ true → (are_in_range ws ≡ true → AllByRecursion IsInRange ws) → AllByRecursion IsInRange (w ∷ ws)
        by true is rest more = (ltb-true (folded_value w) (2 ^ 32 - 1) is, more rest)
        by false is rest more = absurd cc

body_of_order : (order depth block : ℕ) (xs : List ℤ) (bits : List Bool) → order ≤ 4 → IsFixed order depth block xs bits → IsBody (8 + order) depth block xs bits
body_of_order zero depth block xs bits small h = h
body_of_order (suc zero) depth block xs bits small h = h
body_of_order (suc (suc zero)) depth block xs bits small h = h
body_of_order (suc (suc (suc zero))) depth block xs bits small h = h
body_of_order (suc (suc (suc (suc zero)))) depth block xs bits small h = h
body_of_order (suc (suc (suc (suc (suc o))))) depth block xs bits small h = absurd (omega (arith, small))

first_small : (f : ℕ → ℕ) (n : ℕ) → first_least f n ≤ n
unfolding first_least
first_small f zero = omega arith
first_small f (suc n) = by (nat_lt (f (suc n)) (f (first_least f n))) (first_small f n)
  where
    by : (b : Bool) → first_least f n ≤ n → cond b (suc n) (first_least f n) ≤ suc n
    by true h = omega arith
    by false h = omega (arith, h)

small_parameters : (block order : ℕ) (zs : List ℕ) (p j : ℕ) → j < 2 ^ p → slice_index (plan_parameters block order zs p) j ≤ 14
small_parameters block order zs p j lt =
    let best : ℕ → ℕ = λ k. best_parameter (part_of (block / 2 ^ p) order zs k) in
    let here : slice_index (map best (range_with_len 0 (2 ^ p))) j ≡ best j = get_or-map-range_with_len best 0 (2 ^ p) j j 0 lt (omega arith) in
    let few : best j ≤ 14 = first_small (λ k. cost k (part_of (block / 2 ^ p) order zs j)) 14 in
    omega (arith, here, few)

fixed_is : plan.WrittenResidualsAreRead → (depth order p : ℕ) (xs : List ℤ) → 1 ≤ depth → HaveDepth depth xs → IsCandidate xs (Fixed order p)
    → IsFixed order depth (length xs) xs (flat_map (sample_bits depth) (take order xs) ++ residual_bits (length xs) order (folded_residual order xs) p (plan_parameters (length xs) order (folded_residual order xs) p))
fixed_is law depth order p xs positive h own =
    let n : ℕ = length xs in
    let zs : List ℕ = folded_residual order xs in
    let parameters : List ℕ = plan_parameters n order zs p in
    let bits : List Bool = residual_bits n order zs p parameters in
    let part = ltb-true order (n / 2 ^ p) (and_parts (n % 2 ^ p == 0) (nat_lt order (n / 2 ^ p)) own.2).1 in
    let below : order ≤ n = omega (arith, part, div-le_self n (2 ^ p)) in
    let long : length (take order xs) ≡ order = length-take-le order xs below in
    let front : AreSamples depth order (take order xs) (flat_map (sample_bits depth) (take order xs)) =
    subst (λ (k : ℕ). AreSamples depth k (take order xs) (flat_map (sample_bits depth) (take order xs))) long
    (samples_are depth (take order xs) positive (λ j lt. (let l : j < order = omega (arith, lt, long) in
    subst (λ (v : ℤ). HasDepth depth v) (sym (get_or-take order xs j (pos 0) l)) (h j (omega (arith, l, below)))))) in
    let writable : plan.IsWritable n order p (residuals order xs) parameters = record {
      count = omega (arith, length-map-range_with_len (λ (j : ℕ). residual_at order xs (order + j)) 0 (n - order), below);
      partition = own.1;
      fitting = own.2;
      small = λ j lt. small_parameters n order zs p j lt;
      range = in_range (residuals order xs) own.3;
    } in
    let residual : IsResidual n (length (fixed_coefficients order)) (residuals order xs) bits = rw (coefficient_count order own.0) (law.spelled n order p (residuals order xs) parameters writable) in
    let given : one_after_other (take order xs) (samples_behind (fixed_coefficients order) 0 depth (reverse (take order xs)) (residuals order xs)) ≡ Some xs =
    ap (one_after_other (take order xs)) (samples_given order depth xs own.0 below h) ∙ ap (λ (l : List ℤ). Some l) (take-append-drop order xs) in
    other_of (nat_lt n order) IsNothing _ xs (flat_map (sample_bits depth) (take order xs) ++ bits) (le-ltb n order below)
    (in_order (AreSamples depth order) (λ front. IsPredictor (fixed_coefficients order) 0 depth n front) (take order xs) xs (flat_map (sample_bits depth) (take order xs)) bits front
    (in_order_given (IsResidual n (length (fixed_coefficients order))) (λ rs. IsGiven (one_after_other (take order xs) (samples_behind (fixed_coefficients order) 0 depth (reverse (take order xs)) rs))) (residuals order xs) xs bits residual (given, refl)))

-- ---- the law

spells : plan.WrittenResidualsAreRead → (depth : ℕ) (xs : List ℤ) (c : Candidate) → IsWritable depth xs c → IsSubframe depth (length xs) xs (subframe_bits depth xs c)
spells law depth xs Constant w =
    with_head 0 0 depth (length xs) xs (sample_bits depth (at xs 0)) (omega arith) refl refl w.depth_some (constant_is depth xs w.depth_some w.samples_some w.samples w.candidate)
spells law depth xs Verbatim w =
    with_head 2 1 depth (length xs) xs (flat_map (sample_bits depth) xs) (omega arith) refl refl w.depth_some (samples_are depth xs w.depth_some w.samples)
spells law depth xs (Fixed order p) w =
    let small : order ≤ 4 = w.candidate.0 in
    let front : List Bool = flat_map (sample_bits depth) (take order xs) in
    let rest : List Bool = residual_bits (length xs) order (folded_residual order xs) p (plan_parameters (length xs) order (folded_residual order xs) p) in
    let body = body_of_order order depth (length xs) xs (front ++ rest) small (fixed_is law depth order p xs w.depth_some w.samples w.candidate) in
    subst (IsSubframe depth (length xs) xs) (sym (append_assoc (bits_of 8 (16 + 2 * order)) front rest))
    (with_head (16 + 2 * order) (8 + order) depth (length xs) xs (front ++ rest) (omega (arith, small)) (omega arith) (omega arith) w.depth_some body)

pub written_subframes : plan.WrittenResidualsAreRead → ((depth block : ℕ) → Reads (subframe_at depth block) (IsSubframe depth block)) → WrittenSubframesAreRead
written_subframes law reads = record {
  spelled = spells law;
  read = λ depth xs c q w begins. (reads depth (length xs)).whole q xs (subframe_bits depth xs c) (spells law depth xs c w) begins;
  listed = all_listed;
  best = best_is;
}
