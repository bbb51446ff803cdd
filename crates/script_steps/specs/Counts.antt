-- The count of an array's items.
use Rattle.std.proofs.Common.{◌≡◌, ℕ, ◌+◌, List, [], ◌∷◌, length, refl, arith}
use Rattle.serde_json.specs.Data.{Items, no_items, item}
use Rattle.json.specs.declared.value.Value.{Value}
use Rattle.json_data.specs.View.{items_view}

abbrev pub count_of : Items → ℕ
count_of no_items = 0
count_of (item d ds) = count_of ds + 1

-- as many as there are values
pub count_of_view : {A : Type 0} (xs : List (Value A)) → count_of (items_view xs) ≡ length xs
count_of_view [] = refl
count_of_view (x ∷ xs) = omega (arith, count_of_view xs)
