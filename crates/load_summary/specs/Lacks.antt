-- The script of a load takes no chunk that its chunk files lack; it has none.
use Rattle.std.specs.Prelude.{ℕ, ◌≡◌, [], None}
use Rattle.load_script.specs.Script.{load_script}
use Rattle.run_model.specs.Missing.{missing_in}

abbrev pub LoadsLackNothing : Type 0
LoadsLackNothing = (start n : ℕ) → missing_in (load_script start n) [] ≡ None
