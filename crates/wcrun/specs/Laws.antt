-- The bytes of a command's file come to one outcome.
use Rattle.std.specs.Prelude.{ℕ, ◌≡◌, List, Option}
use Rattle.wcrun.specs.Outcome.{Outcome, IsOutcome}
use Rattle.wcrun.specs.Words.{Command}

abbrev pub OneOutcome : Type 0
OneOutcome =
    (c : Command) (files : List ℕ → Option (List ℕ)) (bytes : List ℕ) (a b : Outcome) → IsOutcome c files bytes a → IsOutcome c files bytes b → a ≡ b

abbrev pub SomeOutcome : Type 0
SomeOutcome = (c : Command) (files : List ℕ → Option (List ℕ)) (bytes : List ℕ) → (outcome : Outcome) × IsOutcome c files bytes outcome
