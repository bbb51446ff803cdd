-- Lists in segments.
use Rattle.std.specs.Prelude.{ℕ, ◌≡◌, ◌≤◌, ◌+◌, List, [], ◌∷◌, length, Option, None, Some, slice_get}
use Rattle.std.specs.List.{flat_map}

-- consecutive items of a list, and the place of the first of them
pub record Run (X : Type 0) : Type 0 where
  pub first : ℕ
  pub items : List X

-- a list's items, and how many it has room for
pub record Roomy (X : Type 0) : Type 0 where
  pub items : List X
  pub places : ℕ

-- the items of all segments
abbrev pub joined : {X : Type 0} → List (Run X) → List X
joined runs = flat_map (λ r. r.items) runs

-- The segments from a place on: each but the last holds 1,024 items, the last 1 to 1,024, and each begins at its place.
abbrev pub AreCut : {X : Type 0} → ℕ → List (Run X) → Type 0
AreCut place [] = Unit {0}
AreCut place (r ∷ []) = (r.first ≡ place) × (1 ≤ length r.items) × (length r.items ≤ 1024)
AreCut place (r ∷ q ∷ rs) = (r.first ≡ place) × (length r.items ≡ 1024) × AreCut (place + 1024) (q ∷ rs)

abbrev pub IsEmpty : {X : Type 0} → Run X → Type 0
IsEmpty r = r.items ≡ []

-- the item at a place of a segment, if there is one
abbrev pub item_in : {X : Type 0} → Option (Run X) → ℕ → Option X
item_in None n = None
item_in (Some r) n = slice_get r.items n
