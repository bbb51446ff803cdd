-- The chunk files of a script have one reading.
use Rattle.std.specs.Prelude.{ℕ, ◌≡◌, List, Option}
use Rattle.script_types.specs.declared.script.ScriptData.{ScriptData}
use Rattle.media_files.specs.Media.{Answers, GivesMedia}

-- the chunk files of a script give one answer at most
abbrev pub OneReading : Type 0
OneReading =
    (files : List ℕ → Option (List ℕ)) (s : ScriptData) (a b : Answers) → GivesMedia files s a → GivesMedia files s b → a ≡ b

-- and they give one
abbrev pub SomeReading : Type 0
SomeReading = (files : List ℕ → Option (List ℕ)) (s : ScriptData) → (a : Answers) × GivesMedia files s a
