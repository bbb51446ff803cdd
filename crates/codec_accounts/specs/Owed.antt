-- What the entries of some histories call for in another.
use Rattle.std.specs.Prelude.{ℕ, zero, suc, ◌+◌, List, [], ◌∷◌, ◌++◌, length}

-- the state after a history, where `after` is the state after an entry
abbrev pub state_on : {E S : Type 0} → (E → S → S) → S → List E → S
state_on after s [] = s
state_on after s (e ∷ es) = state_on after (after e s) es

-- What the entries of a history call for, in order, from a place and a state on. `due` is what an entry calls for, by its
-- place and the state before it.
module _ {E S D : Type 0} (after : E → S → S) (due : ℕ → E → S → List D) where
  abbrev pub owed : ℕ → S → List E → List D
  owed place s [] = []
  owed place s (e ∷ es) = due place e s ++ owed (suc place) (after e s) es

-- the list with this number, or an empty one
abbrev pub at : {X : Type 0} → ℕ → List (List X) → List X
at n [] = []
at zero (l ∷ ls) = l
at (suc n) (l ∷ ls) = at n ls

-- the list with this number is longer by one
abbrev pub append_at : {X : Type 0} → ℕ → X → List (List X) → List (List X)
append_at n x [] = []
append_at zero x (l ∷ ls) = (l ++ x ∷ []) ∷ ls
append_at (suc n) x (l ∷ ls) = l ∷ append_at n x ls

-- What the histories of all codecs call for, from the codec with this number on: each codec has its own `due`, and its own
-- state at opening.
module _ {E S D : Type 0} (after : E → S → S) (due : ℕ → ℕ → E → S → List D) (opening : ℕ → S) where
  abbrev pub owed_from : ℕ → List (List E) → List D
  owed_from k [] = []
  owed_from k (h ∷ hs) = owed after (due k) 0 (opening k) h ++ owed_from (suc k) hs

  -- what one entry more of the codec with this number calls for
  abbrev pub due_next : ℕ → ℕ → E → List (List E) → List D
  due_next first k e hs = due (first + k) (length (at k hs)) e (state_on after (opening (first + k)) (at k hs))
