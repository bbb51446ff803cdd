-- The files mentioned with one more, and their table.
use Rattle.std.proofs.Common.{◌≡◌, ℕ, List, [], ◌∷◌, ◌++◌, length, bytes_eq, Some, None, refl, ◌∙◌, arith}
use Rattle.std.specs.List.{position}
use Rattle.std.specs.BTreeMap.{get_by_text}
use Rattle.std.specs.Map.{update}
use Rattle.script_steps.specs.{Files.with_file, Places.IsTable}
use Rattle.script_steps.proofs.{PlaceLaws.Table, PlaceLaws.table_put, Positions.found_or_not}

pub old_file : (files : List (List ℕ)) (name : List ℕ) (n : ℕ) → position (λ f. bytes_eq f name) files ≡ Some n → with_file files name ≡ files
old_file files name n h = grind (arith, h, found_or_not (λ f. bytes_eq f name) files)

pub new_file : (files : List (List ℕ)) (name : List ℕ) → position (λ f. bytes_eq f name) files ≡ None → with_file files name ≡ files ++ name ∷ []
new_file files name h = grind (arith, h, found_or_not (λ f. bytes_eq f name) files)

-- the table after a file that was not mentioned before
pub file_put : (files : List (List ℕ)) (m n : Table) (name : List ℕ) → IsTable m (λ q. position (λ f. bytes_eq f q) files) → position (λ f. bytes_eq f name) files ≡ None
    → IsTable n (update bytes_eq (get_by_text m) name (Some (length files))) → IsTable n (λ q. position (λ f. bytes_eq f q) (files ++ name ∷ []))
file_put files m n name t free puts = table_put (λ q f. bytes_eq f q) files name m n name t (t.at name ∙ free) (λ q. refl) puts
