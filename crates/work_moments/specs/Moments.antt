-- What clocks tell.
use Rattle.std.specs.Prelude.{ℕ, zero, suc, Bool, true, false, cond, nat_lt, ◌-◌, ◌==◌, ◌||◌, ◌≡◌, ◌⊎◌, List, [], ◌∷◌, ◌++◌, Option, Some, None, length, slice_get, unwrap_or}

-- What a clock tells of itself: the moments that it gave so far, and those that it may give; none of either where it does not say.
pub record Telling : Type 0 where
  pub gave : Option (List ℕ)
  pub may : Option (List ℕ)

-- a clock that says nothing of itself
abbrev pub silent : Telling
silent = record { gave = None; may = None }

-- whether this is one of these moments
abbrev pub is_among : ℕ → List ℕ → Bool
is_among m [] = false
is_among m (n ∷ rest) = n == m || is_among m rest

-- whether a clock may give this moment, by what it tells
abbrev pub may_give : Option (List ℕ) → ℕ → Bool
may_give None m = true
may_give (Some moments) m = is_among m moments

-- each of these
abbrev pub AllMay : Option (List ℕ) → List ℕ → Type 0
AllMay may [] = Unit {0}
AllMay may (m ∷ rest) = (may_give may m ≡ true) × AllMay may rest

-- these moments came behind those that it told, or it tells them no more
abbrev pub Behind : Option (List ℕ) → List ℕ → Option (List ℕ) → Type 0
Behind None more now = now ≡ None
Behind (Some old) more now = (now ≡ None) ⊎ (now ≡ Some (old ++ more))

-- A clock gave these moments since, each of which it may give; it may give the same still.
abbrev pub Given : Telling → List ℕ → Telling → Type 0
Given old more now = (now.may ≡ old.may) × AllMay old.may more × Behind old.gave more now.gave

-- ---- clocks with a list of moments

-- the last of these moments; 0 where there is none
abbrev pub last_of : List ℕ → ℕ
last_of moments = unwrap_or (slice_get moments (length moments - 1)) 0

-- the answer with this number: the moment with this number, and behind these the last one again
abbrev pub answer_of : List ℕ → ℕ → ℕ
answer_of moments n = unwrap_or (slice_get moments n) (last_of moments)

-- so many answers
abbrev pub answers_of : List ℕ → ℕ → List ℕ
answers_of moments zero = []
answers_of moments (suc n) = answers_of moments n ++ answer_of moments n ∷ []

-- what it tells of these; the greatest count stands for more answers than it tells
abbrev pub gave_of : List ℕ → ℕ → Option (List ℕ)
gave_of moments n = cond (nat_lt n 18446744073709551615) (Some (answers_of moments n)) None

-- what a clock with this list tells of itself after so many answers
abbrev pub list_told : List ℕ → ℕ → Telling
list_told moments n = record { gave = gave_of moments n; may = Some (last_of moments ∷ moments) }
