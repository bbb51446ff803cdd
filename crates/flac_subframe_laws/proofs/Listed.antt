-- Each candidate of the list can be written.
use Rattle.std.proofs.Common.{ℕ, zero, suc, ℤ, ◌≡◌, ◌≤◌, ◌+◌, min, Bool, true, false, cond, List, [], ◌∷◌, ◌++◌, length, map, refl, arith}
use Rattle.std.specs.Prelude.{nat_lt}
use Rattle.std.specs.List.{AllByRecursion, flat_map, filter, range_with_len}
use Rattle.flac_definitions.specs.Plans.{fits}
use Rattle.flac_definitions.specs.FixedPredictors.{residuals, are_in_range}
use Rattle.flac_definitions.specs.Candidates.{is_constant, fixed_candidates, candidates, candidate_bits, first_shortest, shortest_of, best_candidate}
use Rattle.flac_definitions.specs.declared.candidate.Candidate.{Candidate}
use Rattle.flac_definitions.specs.declared.candidate.Candidate.TheVariants.{Constant, Verbatim, Fixed}
use Rattle.flac_subframe_laws.specs.Laws.{IsCandidate}

all_both : {X : Type 0} (P : X → Type 0) (xs ys : List X) → AllByRecursion P xs → AllByRecursion P ys → AllByRecursion P (xs ++ ys)
all_both P [] ys a b = b
all_both P (x ∷ xs) ys a b = (a.0, all_both P xs ys a.1 b)

-- ---- orders

all_fixed : (xs : List ℤ) (order : ℕ) (ns : List ℕ) → order ≤ 4 → are_in_range (residuals order xs) ≡ true → AllByRecursion (λ p. p ≤ 15) ns → AllByRecursion (IsCandidate xs) (map (Fixed order) (filter (fits (length xs) order) ns))
all_fixed xs order [] small range h = tt
all_fixed xs order (p ∷ ps) small range h = by (fits (length xs) order p) refl (all_fixed xs order ps small range h.1)
  where
    by : (b : Bool) → fits (length xs) order p ≡ b → AllByRecursion (IsCandidate xs) (map (Fixed order) (filter (fits (length xs) order) ps)) → AllByRecursion (IsCandidate xs) (map (Fixed order) (cond b (p ∷ filter (fits (length xs) order) ps) (filter (fits (length xs) order) ps)))
    by true is rest = ((small, h.0, is, range), rest)
    by false is rest = rest

few : (a n : ℕ) → a + n ≤ 16 → AllByRecursion (λ p. p ≤ 15) (range_with_len a n)
few a zero h = tt
few a (suc n) h = (omega (arith, h), few (a + 1) n (omega (arith, h)))

all_of_order : (xs : List ℤ) (most order : ℕ) → most ≤ 15 → order ≤ 4 → AllByRecursion (IsCandidate xs) (fixed_candidates most xs order)
all_of_order xs most order m small = by (are_in_range (residuals order xs)) refl
  where
    by : (b : Bool) → are_in_range (residuals order xs) ≡ b → AllByRecursion (IsCandidate xs) (cond b (map (Fixed order) (filter (fits (length xs) order) (range_with_len 0 (most + 1)))) [])
    by true is = all_fixed xs order (range_with_len 0 (most + 1)) small is (few 0 (most + 1) (omega (arith, m)))
    by false is = tt

all_of_orders : (xs : List ℤ) (most a n : ℕ) → most ≤ 15 → a + n ≤ 5 → AllByRecursion (IsCandidate xs) (flat_map (fixed_candidates most xs) (range_with_len a n))
all_of_orders xs most a zero m h = tt
all_of_orders xs most a (suc n) m h = all_both (IsCandidate xs) (fixed_candidates most xs a) _ (all_of_order xs most a m (omega (arith, h))) (all_of_orders xs most (a + 1) n m (omega (arith, h)))

-- ---- all

min_small : (a b : ℕ) → min a b ≤ b
min_small a b = omega arith

constant_first : (xs : List ℤ) (b : Bool) → is_constant xs ≡ b → AllByRecursion (IsCandidate xs) (cond b (Constant ∷ []) [])
constant_first xs true is = (is, tt)
constant_first xs false is = tt

pub all_listed : (level : ℕ) (xs : List ℤ) → AllByRecursion (IsCandidate xs) (candidates level xs)
all_listed level xs =
    let six = min_small level 6 in
    let four = min_small level 4 in
    all_both (IsCandidate xs) (cond (is_constant xs) (Constant ∷ []) []) (Verbatim ∷ flat_map (fixed_candidates (min level 6) xs) (range_with_len 0 (min level 4 + 1))) (constant_first xs (is_constant xs) refl)
    (tt, all_of_orders xs (min level 6) 0 (min level 4 + 1) (omega (arith, six)) (omega (arith, four)))

-- ---- the first of least length

first_is : (P : Candidate → Type 0) (f : Candidate → ℕ) (a : Candidate) (bs : List Candidate) → P a → AllByRecursion P bs → P (first_shortest f a bs)
unfolding first_shortest
first_is P f a [] own h = own
first_is P f a (b ∷ bs) own h = first_is P f (cond (nat_lt (f b) (f a)) b a) bs (by (nat_lt (f b) (f a))) h.1
  where
    by : (t : Bool) → P (cond t b a)
    by true = h.0
    by false = own

shortest_is : (xs : List ℤ) (f : Candidate → ℕ) (cs : List Candidate) → AllByRecursion (IsCandidate xs) cs → IsCandidate xs (shortest_of f cs)
shortest_is xs f [] h = tt
shortest_is xs f (c ∷ cs) h = first_is (IsCandidate xs) f c cs h.0 h.1

pub best_is : (depth level : ℕ) (xs : List ℤ) → IsCandidate xs (best_candidate depth level xs)
best_is depth level xs = shortest_is xs (candidate_bits depth xs) (candidates level xs) (all_listed level xs)
