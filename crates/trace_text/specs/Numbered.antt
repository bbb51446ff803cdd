-- Items with their numbers, taken from the front.
use Rattle.std.specs.Prelude.{ℕ, ◌+◌, ◌≡◌, List, [], ◌∷◌, Option, Some, None}

-- the items that are left, and the number of the first of them
pub record Left (X : Type 0) : Type 0 where
  pub number : ℕ
  pub items : List X

-- the first item is taken, with its number, if there is one
abbrev pub TakesNumbered : {X : Type 0} → Left X → Option (ℕ × X) → Left X → Type 0
TakesNumbered old None new = (old.items ≡ []) × (new ≡ old)
TakesNumbered old (Some x) new = (old.items ≡ x.1 ∷ new.items) × (old.number ≡ x.0) × (new.number ≡ old.number + 1)

-- the first of a list is taken, if there is one
abbrev pub TakesFirst : {X : Type 0} → List X → Option X → List X → Type 0
TakesFirst old None new = (old ≡ []) × (new ≡ [])
TakesFirst old (Some x) new = old ≡ x ∷ new
