-- The chunk files that a script mentions, in order of first mention.
use Rattle.std.specs.Prelude.{ℕ, List, [], ◌∷◌, ◌++◌, length, bytes_eq, if◌then◌else◌, unwrap_or}
use Rattle.std.specs.List.{list_any, position}

-- the number of a file: its place among those mentioned so far, or the next one
abbrev pub file_number : List (List ℕ) → List ℕ → ℕ
file_number files name = unwrap_or (position (λ f. bytes_eq f name) files) (length files)

-- the files mentioned so far, with this one
abbrev pub with_file : List (List ℕ) → List ℕ → List (List ℕ)
with_file files name = if list_any (λ f. bytes_eq f name) files then files else files ++ name ∷ []
