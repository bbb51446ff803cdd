-- Orders that are not searched, since a length below which none of their candidates is shows that they are not shorter.
use Rattle.std.proofs.Common.{ℕ, zero, suc, ℤ, ◌≡◌, ◌<◌, ◌≤◌, ◌+◌, ◌*◌, ◌^◌, true, List, length, refl, ap, sym, subst, ◌∙◌, arith}
use Rattle.std.specs.List.{flat_map, range_with_len}
use Rattle.flac_definitions.specs.FixedPredictors.{residuals, are_in_range}
use Rattle.flac_definitions.specs.Candidates.{fixed_candidates, candidate_bits, first_shortest, IsChoice}
use Rattle.flac_definitions.specs.declared.candidate.Candidate.{Candidate}
use Rattle.flac_definitions.specs.declared.candidate.Choice.{Choice}
use Rattle.flac_subframes.specs.Search.{AreWithin, differences, best_of_order}
use Rattle.flac_subframes.proofs.Ranges.{residual_none, bound_at_end, bound_more, within_range}
use Rattle.flac_subframes.proofs.Residuals.{next_residuals, differences_within}
use Rattle.flac_subframes.proofs.Shortest.{keeps, shortest_none, next_order, order_in_range, choice_as}

-- residuals of small samples are small
small_order : (o : ℕ) (xs : List ℤ) → o ≤ 4 → AreWithin (2 ^ 25) xs → AreWithin (2 ^ 25 * 2 ^ o) (residuals o xs)
small_order zero xs few w =
    let one : 2 ^ 25 ≡ 2 ^ 25 * 2 ^ zero = omega arith in
    subst (λ (m : ℕ). AreWithin m (residuals zero xs)) one (subst (λ (l : List ℤ). AreWithin (2 ^ 25) l) (residual_none xs) w)
small_order (suc o) xs few w =
    let b = 2 ^ 25 * 2 ^ o in
    let next : o + 1 ≡ suc o = omega arith in
    let turned : 2 * b ≡ 2 ^ 25 * 2 ^ suc o = omega (arith, bound_more o b refl, ap (λ (k : ℕ). 2 ^ 25 * 2 ^ k) next) in
    let is : differences (residuals o xs) ≡ residuals (suc o) xs = next_residuals o xs (omega (arith, few)) ∙ ap (λ (k : ℕ). residuals k xs) next in
    subst (λ (m : ℕ). AreWithin m (residuals (suc o) xs)) turned
    (subst (λ (l : List ℤ). AreWithin (2 * b) l) is (differences_within b (residuals o xs) (small_order o xs (omega (arith, few)) w)))

pub order_range : (o : ℕ) (xs : List ℤ) → o ≤ 4 → AreWithin (2 ^ 25) xs → are_in_range (residuals o xs) ≡ true
order_range o xs few w = within_range (2 ^ 25 * 2 ^ o) (residuals o xs) (bound_at_end o (2 ^ 25 * 2 ^ o) few refl) (small_order o xs few w)

-- an order that is no shorter
pub stays_before : (depth : ℕ) (xs : List ℤ) (most o : ℕ) (a : Candidate) → o ≤ 4 → 4 < length xs → AreWithin (2 ^ 25) xs
    → candidate_bits depth xs a ≤ candidate_bits depth xs (best_of_order most xs o) → first_shortest (candidate_bits depth xs) a (fixed_candidates most xs o) ≡ a
stays_before depth xs most o a few long w h = order_in_range depth xs most o a (omega (arith, few, long)) (order_range o xs few w) ∙ keeps (candidate_bits depth xs) a (best_of_order most xs o) h

pub choice_stays : (depth : ℕ) (xs : List ℤ) (most o : ℕ) (best : Choice) → o ≤ 4 → 4 < length xs → AreWithin (2 ^ 25) xs
    → IsChoice depth xs best.candidate best → best.bits ≤ candidate_bits depth xs (best_of_order most xs o)
    → IsChoice depth xs (first_shortest (candidate_bits depth xs) best.candidate (fixed_candidates most xs o)) best
choice_stays depth xs most o best few long w h less =
    choice_as depth xs best.candidate (first_shortest (candidate_bits depth xs) best.candidate (fixed_candidates most xs o)) best
    (sym (stays_before depth xs most o best.candidate few long w (omega (arith, less, h.bits)))) h

-- no order is shorter
none_shorter : (depth : ℕ) (xs : List ℤ) (most n : ℕ) (a : Candidate) → n ≤ 5 → 4 < length xs → AreWithin (2 ^ 25) xs
    → ((o : ℕ) → o < n → candidate_bits depth xs a ≤ candidate_bits depth xs (best_of_order most xs o))
    → first_shortest (candidate_bits depth xs) a (flat_map (fixed_candidates most xs) (range_with_len 0 n)) ≡ a
none_shorter depth xs most zero a few long w h = shortest_none (candidate_bits depth xs) a
none_shorter depth xs most (suc n) a few long w h =
    let f = candidate_bits depth xs in
    let g = fixed_candidates most xs in
    let count : suc n ≡ n + 1 = omega arith in
    ap (λ (k : ℕ). first_shortest f a (flat_map g (range_with_len 0 k))) count
    ∙ (next_order f a g n ∙ (ap (λ (x : Candidate). first_shortest f x (g n)) (none_shorter depth xs most n a (omega (arith, few)) long w (λ o l. h o (omega (arith, l))))
    ∙ stays_before depth xs most n a (omega (arith, few)) long w (h n (omega arith))))

pub first_stays : (depth : ℕ) (xs : List ℤ) (most last : ℕ) (first : Choice) → last ≤ 4 → 4 < length xs → AreWithin (2 ^ 25) xs
    → IsChoice depth xs first.candidate first → ((o : ℕ) → o ≤ last → first.bits ≤ candidate_bits depth xs (best_of_order most xs o))
    → IsChoice depth xs (first_shortest (candidate_bits depth xs) first.candidate (flat_map (fixed_candidates most xs) (range_with_len 0 (last + 1)))) first
first_stays depth xs most last first few long w h less =
    choice_as depth xs first.candidate (first_shortest (candidate_bits depth xs) first.candidate (flat_map (fixed_candidates most xs) (range_with_len 0 (last + 1)))) first
    (sym (none_shorter depth xs most (last + 1) first.candidate (omega (arith, few)) long w (λ o l. omega (arith, less o (omega (arith, l)), h.bits)))) h
