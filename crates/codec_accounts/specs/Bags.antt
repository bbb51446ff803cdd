-- Lists with the same elements.
use Rattle.std.specs.Prelude.{ℕ, ◌≡◌, List}
use Rattle.std.specs.List.{sum_by}

-- the same elements, each as often, in any order: however the elements are weighed, both weigh the same
abbrev pub SameBag : {X : Type 0} → List X → List X → Type 0
SameBag {X} a b = (t : X → ℕ) → sum_by t a ≡ sum_by t b
