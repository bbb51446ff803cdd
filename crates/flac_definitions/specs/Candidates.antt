-- The candidates for a subframe, and the first of the least length (our choice among what RFC 9639, section 9.2, allows).
use Rattle.std.specs.Prelude.{ℕ, ℤ, ◌≡◌, ◌<◌, ◌≤◌, ◌+◌, ◌*◌, ◌^◌, min, nat_lt, Bool, true, false, List, [], ◌∷◌, ◌++◌, length, map, if◌then◌else◌}
use Rattle.std.specs.List.{flat_map, filter, range_with_len}
use Rattle.std.specs.Ordering.{int_eq}
use Rattle.flac_definitions.specs.Plans.{fits, plan_bits, IsPlan, IsUsable}
use Rattle.flac_definitions.specs.FixedPredictors.{at, residuals, folded_residual, are_in_range}
use Rattle.flac_definitions.specs.declared.candidate.Candidate.{Candidate}
use Rattle.flac_definitions.specs.declared.candidate.Candidate.TheVariants.{Constant, Verbatim, Fixed}
use Rattle.flac_definitions.specs.declared.candidate.Choice.{Choice}

-- whether all samples are one
abbrev pub are_all : ℤ → List ℤ → Bool
are_all x [] = true
are_all x (y ∷ ys) = if int_eq y x then are_all x ys else false

abbrev pub is_constant : List ℤ → Bool
is_constant xs = are_all (at xs 0) xs

-- the candidates of one order: each partition order up to a greatest one that fits, if all residuals are in range
abbrev pub fixed_candidates : ℕ → List ℤ → ℕ → List Candidate
fixed_candidates most xs order =
    if are_in_range (residuals order xs)
    then map (Fixed order) (filter (fits (length xs) order) (range_with_len 0 (most + 1)))
    else []

-- all of them at a level, in order: an order above the block's size has none, since no partition order fits
abbrev pub candidates : ℕ → List ℤ → List Candidate
candidates level xs =
    (if is_constant xs then Constant ∷ [] else [])
    ++ Verbatim ∷ flat_map (fixed_candidates (min level 6) xs) (range_with_len 0 (min level 4 + 1))

-- the bits of a subframe with samples of so many bits
abbrev pub candidate_bits : ℕ → List ℤ → Candidate → ℕ
candidate_bits depth xs Constant = 8 + depth
candidate_bits depth xs Verbatim = 8 + depth * length xs
candidate_bits depth xs (Fixed order p) = 8 + depth * order + plan_bits (length xs) order (folded_residual order xs) p

-- the first of least length of one and those behind it
abbrev pub shorter : {A : Type 0} → (A → ℕ) → A → A → A
shorter f a b = if nat_lt (f b) (f a) then b else a

unfoldable pub first_shortest : {A : Type 0} → (A → ℕ) → A → List A → A
first_shortest f a [] = a
first_shortest f a (b ∷ bs) = first_shortest f (shorter f a b) bs

-- of a list; verbatim is always in it
abbrev pub shortest_of : (Candidate → ℕ) → List Candidate → Candidate
shortest_of f [] = Verbatim
shortest_of f (c ∷ cs) = first_shortest f c cs

abbrev pub best_candidate : ℕ → ℕ → List ℤ → Candidate
best_candidate depth level xs = shortest_of (candidate_bits depth xs) (candidates level xs)

-- what a choice keeps of a residual
abbrev pub HasPlan : List ℤ → Candidate → Choice → Type 0
HasPlan xs (Fixed order p) choice =
    (order ≤ 4) × (order < length xs) × (are_in_range (residuals order xs) ≡ true)
    × IsPlan (length xs) order (folded_residual order xs) p choice.plan × IsUsable (length xs) order choice.plan
HasPlan xs _ choice = Unit {0}

-- a choice is a candidate, with its bits and its plan
pub record IsChoice (depth : ℕ) (xs : List ℤ) (candidate : Candidate) (choice : Choice) : Type 0 where
  pub candidate_is : choice.candidate ≡ candidate
  pub bits : choice.bits ≡ candidate_bits depth xs candidate
  pub small : choice.bits < 2 ^ 63 + 2 ^ 32
  pub plan : HasPlan xs candidate choice
