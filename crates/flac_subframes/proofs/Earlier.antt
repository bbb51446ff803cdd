-- Orders that are searched behind others, though they stand before them.
use Rattle.std.proofs.Common.{ℕ, suc, ℤ, ◌≡◌, ◌<◌, ◌≤◌, ◌+◌, ◌*◌, ◌^◌, true, List, [], ◌∷◌, ◌++◌, length, refl, ap, sym, ◌∙◌, arith, append-nil}
use Rattle.std.specs.List.{flat_map, range_with_len}
use Rattle.std.proofs.lemmas.List.Concat.{flat_map-append}
use Rattle.flac_plans.specs.FitLaws.{range_more}
use Rattle.flac_definitions.specs.FixedPredictors.{residuals, are_in_range}
use Rattle.flac_subframes.specs.Search.{AreWithin, best_of_order}
use Rattle.flac_definitions.specs.Candidates.{fixed_candidates, candidate_bits, shorter, first_shortest, IsChoice}
use Rattle.flac_definitions.specs.declared.candidate.Candidate.{Candidate}
use Rattle.flac_definitions.specs.declared.candidate.Choice.{Choice}
use Rattle.flac_subframes.proofs.Ranges.{bound_at_end, bound_more, within_range}
use Rattle.flac_subframes.proofs.Shortest.{takes, shorter_assoc, shortest-append, order_in_range, choice_as, shorter_choice}

-- the first of least length of some and what stands behind: found behind first
pub shorter_front : {A : Type 0} (f : A → ℕ) (a b : A) (ys : List A) → first_shortest f (shorter f a b) ys ≡ shorter f a (first_shortest f b ys)
unfolding first_shortest
shorter_front f a b [] = refl
shorter_front {A} f a b (y ∷ ys) = ap (λ (x : A). first_shortest f x ys) (shorter_assoc f a b y) ∙ shorter_front f a (shorter f b y) ys

-- an order in front of others
pub front_order : (depth : ℕ) (xs : List ℤ) (most o m : ℕ) (a : Candidate) → o < length xs → are_in_range (residuals o xs) ≡ true
    → first_shortest (candidate_bits depth xs) a (flat_map (fixed_candidates most xs) (range_with_len o (suc m)))
    ≡ shorter (candidate_bits depth xs) a (first_shortest (candidate_bits depth xs) (best_of_order most xs o) (flat_map (fixed_candidates most xs) (range_with_len (o + 1) m)))
front_order depth xs most o m a some range =
    let f = candidate_bits depth xs in
    let rest = flat_map (fixed_candidates most xs) (range_with_len (o + 1) m) in
    shortest-append f a (fixed_candidates most xs o) rest
    ∙ (ap (λ (x : Candidate). first_shortest f x rest) (order_in_range depth xs most o a some range) ∙ shorter_front f a (best_of_order most xs o) rest)

-- one more order behind those that begin anywhere
next_from : (f : Candidate → ℕ) (a : Candidate) (g : ℕ → List Candidate) (s n j : ℕ) → s + n ≡ j → first_shortest f a (flat_map g (range_with_len s (n + 1))) ≡ first_shortest f (first_shortest f a (flat_map g (range_with_len s n))) (g j)
next_from f a g s n j e =
    ap (λ (l : List ℕ). first_shortest f a (flat_map g l)) (range_more s n j e)
    ∙ (ap (first_shortest f a) (flat_map-append g (range_with_len s n) (j ∷ []) ∙ ap (λ (l : List Candidate). flat_map g (range_with_len s n) ++ l) (append-nil (g j)))
    ∙ shortest-append f a (flat_map g (range_with_len s n)) (g j))

pub choice_from : (depth : ℕ) (xs : List ℤ) (most s n j m : ℕ) (a before : Candidate) (choice : Choice) → s + n ≡ j → m ≡ n + 1
    → before ≡ first_shortest (candidate_bits depth xs) a (flat_map (fixed_candidates most xs) (range_with_len s n))
    → IsChoice depth xs (first_shortest (candidate_bits depth xs) before (fixed_candidates most xs j)) choice
    → IsChoice depth xs (first_shortest (candidate_bits depth xs) a (flat_map (fixed_candidates most xs) (range_with_len s m))) choice
choice_from depth xs most s n j m a before choice at count e h =
    let f = candidate_bits depth xs in
    let g = fixed_candidates most xs in
    choice_as depth xs (first_shortest f before (g j)) (first_shortest f a (flat_map g (range_with_len s m))) choice
    (ap (λ (x : Candidate). first_shortest f x (g j)) e
    ∙ (sym (next_from f a g s n j at) ∙ ap (λ (k : ℕ). first_shortest f a (flat_map g (range_with_len s k))) (sym count))) h

-- a choice of all orders from the first, behind a candidate
pub whole_choice : (depth : ℕ) (xs : List ℤ) (most last : ℕ) (first best result : Choice) → 0 < length xs → are_in_range (residuals 0 xs) ≡ true
    → IsChoice depth xs first.candidate first
    → IsChoice depth xs (first_shortest (candidate_bits depth xs) (best_of_order most xs 0) (flat_map (fixed_candidates most xs) (range_with_len 1 last))) best
    → (first.bits ≤ best.bits → result ≡ first) → (best.bits < first.bits → result ≡ best)
    → IsChoice depth xs (first_shortest (candidate_bits depth xs) first.candidate (flat_map (fixed_candidates most xs) (range_with_len 0 (last + 1)))) result
whole_choice depth xs most last first best result some range h k one other =
    let f = candidate_bits depth xs in
    let g = fixed_candidates most xs in
    let rest = first_shortest f (best_of_order most xs 0) (flat_map g (range_with_len 1 last)) in
    let count : last + 1 ≡ suc last = omega arith in
    choice_as depth xs (shorter f first.candidate rest) (first_shortest f first.candidate (flat_map g (range_with_len 0 (last + 1)))) result
    (sym (ap (λ (n : ℕ). first_shortest f first.candidate (flat_map g (range_with_len 0 n))) count ∙ front_order depth xs most 0 last first.candidate some range))
    (shorter_choice depth xs rest first best result h k one other)

-- the first order, and those behind it
pub first_and_later : (depth : ℕ) (xs : List ℤ) (most last n : ℕ) (a best : Candidate) (choice : Choice) → n ≡ last → best ≡ first_shortest (candidate_bits depth xs) a (fixed_candidates most xs 0)
    → IsChoice depth xs (first_shortest (candidate_bits depth xs) best (flat_map (fixed_candidates most xs) (range_with_len 1 n))) choice
    → IsChoice depth xs (first_shortest (candidate_bits depth xs) a (flat_map (fixed_candidates most xs) (range_with_len 0 (last + 1)))) choice
first_and_later depth xs most last n a best choice same e h =
    let f = candidate_bits depth xs in
    let g = fixed_candidates most xs in
    let count : last + 1 ≡ suc last = omega arith in
    choice_as depth xs (first_shortest f best (flat_map g (range_with_len 1 n))) (first_shortest f a (flat_map g (range_with_len 0 (last + 1)))) choice
    (ap (λ (k : ℕ). first_shortest f best (flat_map g (range_with_len 1 k))) same
    ∙ (ap (λ (x : Candidate). first_shortest f x (flat_map g (range_with_len 1 last))) e
    ∙ sym (ap (λ (k : ℕ). first_shortest f a (flat_map g (range_with_len 0 k))) count ∙ shortest-append f a (g 0) (flat_map g (range_with_len 1 last))))) h

-- one order more in front of a choice
pub earlier_choice : (depth : ℕ) (xs : List ℤ) (most o n m : ℕ) (behind : Candidate) (choice : Choice) → o + 1 < length xs → are_in_range (residuals (o + 1) xs) ≡ true → n ≡ suc m
    → behind ≡ first_shortest (candidate_bits depth xs) (best_of_order most xs (o + 1)) (flat_map (fixed_candidates most xs) (range_with_len (o + 1 + 1) m))
    → IsChoice depth xs (shorter (candidate_bits depth xs) (best_of_order most xs o) behind) choice
    → IsChoice depth xs (first_shortest (candidate_bits depth xs) (best_of_order most xs o) (flat_map (fixed_candidates most xs) (range_with_len (o + 1) n))) choice
earlier_choice depth xs most o n m behind choice some range count e h =
    let f = candidate_bits depth xs in
    let g = fixed_candidates most xs in
    let a = best_of_order most xs o in
    choice_as depth xs (shorter f a behind) (first_shortest f a (flat_map g (range_with_len (o + 1) n))) choice
    (ap (shorter f a) e
    ∙ (sym (front_order depth xs most (o + 1) m a some range) ∙ ap (λ (k : ℕ). first_shortest f a (flat_map g (range_with_len (o + 1) k))) (sym count))) h

pub kept_behind : (depth : ℕ) (xs : List ℤ) (a : Candidate) (behind : Choice) → IsChoice depth xs behind.candidate behind → behind.bits < candidate_bits depth xs a
    → IsChoice depth xs (shorter (candidate_bits depth xs) a behind.candidate) behind
kept_behind depth xs a behind h less =
    choice_as depth xs behind.candidate (shorter (candidate_bits depth xs) a behind.candidate) behind (sym (takes (candidate_bits depth xs) a behind.candidate (omega (arith, less, h.bits)))) h

pub earlier_or_behind : (depth : ℕ) (xs : List ℤ) (a : Candidate) (choice behind result : Choice) → IsChoice depth xs a choice → IsChoice depth xs behind.candidate behind
    → (choice.bits ≤ behind.bits → result ≡ choice) → (behind.bits < choice.bits → result ≡ behind) → IsChoice depth xs (shorter (candidate_bits depth xs) a behind.candidate) result
earlier_or_behind depth xs a choice behind result h k one other =
    let f = candidate_bits depth xs in
    choice_as depth xs (shorter f choice.candidate behind.candidate) (shorter f a behind.candidate) result
    (ap (λ (x : Candidate). shorter f x behind.candidate) h.candidate_is)
    (shorter_choice depth xs behind.candidate choice behind result (choice_as depth xs a choice.candidate choice (sym h.candidate_is) h) k one other)

pub doubled : (o b : ℕ) → b ≡ 2 ^ 25 * 2 ^ o → 2 * b ≡ 2 ^ 25 * 2 ^ (o + 1)
doubled o b e = omega (arith, bound_more o b e)

-- residuals of small samples are in range
pub small_range : (o b : ℕ) (xs ys : List ℤ) → o ≤ 4 → b ≡ 2 ^ 25 * 2 ^ o → ys ≡ residuals o xs → AreWithin b ys → are_in_range (residuals o xs) ≡ true
small_range o b xs ys few e is w = sym (ap (λ (l : List ℤ). are_in_range l) is) ∙ within_range b ys (bound_at_end o b few e) w
