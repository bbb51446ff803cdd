-- The names whose read failed.
use Rattle.std.specs.Prelude.{ℕ, ◌≡◌, List, [], ◌∷◌, ◌++◌, Result, Ok, Err}
use Rattle.wc_base.specs.declared.files.FileFault.{FileFault}
use Rattle.wc_base.specs.declared.files.FileFault.TheVariants as fault

-- the names whose read failed, after one more read, of the file with this name, has answered
abbrev pub failed_after : {T : Type 0} → List (List ℕ) → List ℕ → Result T FileFault → List (List ℕ)
failed_after names name (Ok x) = names
failed_after names name (Err fault.Failed) = names ++ name ∷ []
failed_after names name (Err fault.TooLong) = names
failed_after names name (Err fault.NoMemory) = names
