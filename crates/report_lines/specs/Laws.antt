-- What is written as a line is read again, and what is read is written so and fits the script.
use Rattle.std.specs.Prelude.{ℕ, ◌≡◌, true, List, [], ◌∷◌, ◌++◌, Some, IfSome}
use Rattle.std.specs.List.{list_all}
use Rattle.script_types.specs.declared.script.ScriptData.{ScriptData}
use Rattle.report_text.specs.declared.line.Line.{Line}
use Rattle.report_text.specs.Text.{line_text}
use Rattle.report_lines.specs.Reading.{line_at}
use Rattle.report_lines.specs.Fits.{is_no_feed, AreNames, FitsLine}

abbrev pub LineAgain : Type 0
LineAgain = (script : ScriptData) (l : Line) (rest : List ℕ) → AreNames script → FitsLine script l → line_at script (line_text script l ++ rest) ≡ Some (l, rest)

abbrev pub LineSound : Type 0
LineSound = (script : ScriptData) (bs : List ℕ) (read : Line × List ℕ) → line_at script bs ≡ Some read → bs ≡ line_text script read.0 ++ read.1

abbrev pub LineFits : Type 0
LineFits = (script : ScriptData) (bs : List ℕ) → IfSome (line_at script bs) (λ read. FitsLine script read.0)

-- a text ends with its only line feed
pub record IsOneLine (text : List ℕ) : Type 0 where
  pub front : List ℕ
  pub whole : text ≡ front ++ 10 ∷ []
  pub only : list_all is_no_feed front ≡ true

abbrev pub LineIsOne : Type 0
LineIsOne = (script : ScriptData) (l : Line) → AreNames script → FitsLine script l → IsOneLine (line_text script l)
