-- The files that are mentioned with a chunk: those before it, and at most the one that it mentions.
use Rattle.std.proofs.Common.{◌≡◌, ℕ, bytes_eq, true, false, List, [], ◌∷◌, ◌++◌, length, Some, arith}
use Rattle.std.specs.List.{list_any}
use Rattle.std.proofs.lemmas.List.{append_assoc, append-nil, length-append}
use Rattle.script_types.specs.Sound.{next_file, are_apart}
use Rattle.script_steps.proofs.Positions.{found_from}
use Rattle.script_steps.specs.Files.{file_number, with_file}

pub file_is_counted : (files : List (List ℕ)) (name : List ℕ) → next_file (length files) (file_number files name) ≡ Some (length (with_file files name))
file_is_counted files name = grind (arith, found_from (λ f. bytes_eq f name) files, length-append files (name ∷ []))

one_more : (before files : List (List ℕ)) (name : List ℕ) → are_apart before files ≡ true → list_any (λ x. bytes_eq x name) (before ++ files) ≡ false
    → are_apart before (files ++ name ∷ []) ≡ true
one_more before [] name h k = grind (arith, append-nil before, k)
one_more before (f ∷ fs) name h k = grind (arith, h, k, one_more (before ++ f ∷ []) fs name, append_assoc before (f ∷ []) fs)

pub files_are_apart : (files : List (List ℕ)) (name : List ℕ) → are_apart [] files ≡ true → are_apart [] (with_file files name) ≡ true
files_are_apart files name h = grind (arith, h, one_more [] files name)
