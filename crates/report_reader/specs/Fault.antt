-- The line at fault in what is no report of a run, and what reading answers.
use Rattle.std.specs.Prelude.{ℕ, ◌≡◌, ◌≢◌, ◌⊎◌, ◌+◌, ◌==◌, if◌then◌else◌, List, [], ◌∷◌, length, Option, Some, None, Result, Ok, Err}
use Rattle.wc_chunk.specs.declared.chunk.Chunk.{Chunk}
use Rattle.script_types.specs.declared.script.ScriptData.{ScriptData}
use Rattle.run_model.specs.declared.run.Run.{Run}
use Rattle.trace_text.specs.Report.{report_of}
use Rattle.report_text.specs.declared.line.Line.{Line}
use Rattle.report_reader.specs.declared.forms.Forms.{Forms}
use Rattle.report_reader.specs.declared.forms.Forms.TheVariants as forms
use Rattle.report_reader.specs.declared.fault.ReportFault.{ReportFault}
use Rattle.report_reader.specs.declared.fault.ReportFault.TheVariants as fault
use Rattle.report_reader.specs.declared.forms.Section.{Section}
use Rattle.report_reader.specs.declared.forms.Section.TheVariants as section
use Rattle.report_reader.specs.Form.{form_at, Reads, AreForms}
use Rattle.report_reader.specs.Read.{run_of}

-- what two texts begin with alike
abbrev pub common : List ℕ → List ℕ → List ℕ
common (x ∷ xs) (y ∷ ys) = if x == y then x ∷ common xs ys else []
common _ _ = []

-- how many line feeds there are
abbrev pub feeds : List ℕ → ℕ
feeds [] = 0
feeds (b ∷ bs) = (if b == 10 then 1 else 0) + feeds bs

-- the number, from 1, of the first line in which two texts differ; a line that one of them lacks has the number that it
-- would have
abbrev pub line_of_difference : List ℕ → List ℕ → ℕ
line_of_difference a b = feeds (common a b) + 1

-- the same, counted from a number on; none where the texts are the same
abbrev pub difference_from : ℕ → List ℕ → List ℕ → Option ℕ
difference_from n [] [] = None
difference_from n [] (y ∷ ys) = Some n
difference_from n (x ∷ xs) [] = Some n
difference_from n (x ∷ xs) (y ∷ ys) = if x == y then difference_from (if x == 10 then n + 1 else n) xs ys else Some n

-- The lines before line n have their form. At its place nothing is left though the report is not at its end, or what is
-- left does not begin with a line that may stand there.
pub record IsBadForm (script : ScriptData) (bs : List ℕ) (n : ℕ) : Type 0 where
  pub before : List Line
  pub at : Section
  pub left : List ℕ
  pub reads : Reads script section.Start bs before at left
  pub not_all : at ≡ section.Ended → left ≡ [] → ⊥
  pub none : form_at script at left ≡ None
  pub number : n ≡ length before + 1

-- All lines have their form, and line n is the first that differs from the report of the run that they show.
pub record IsDifferent (script : ScriptData) (media : List (List Chunk)) (bs : List ℕ) (n : ℕ) : Type 0 where
  pub lines : List Line
  pub forms : AreForms script bs lines
  pub differs : report_of script (run_of script media lines) ≢ bs
  pub number : n ≡ line_of_difference (report_of script (run_of script media lines)) bs

-- a refusal names the line at fault; want of memory may come at any time
abbrev pub IsFault : ScriptData → List (List Chunk) → List ℕ → ReportFault → Type 0
IsFault script media bs (fault.BadLine n) = IsBadForm script bs n ⊎ IsDifferent script media bs n
IsFault script media bs fault.NoMemory = Unit {0}

-- this run, unless memory was wanted
abbrev pub Gives : Result Run ReportFault → Run → Type 0
Gives (Ok run) wanted = run ≡ wanted
Gives (Err (fault.BadLine n)) wanted = ⊥
Gives (Err fault.NoMemory) wanted = Unit {0}

-- All lines have their form, the run is what they show, and the bytes are its report.
pub record IsRead (script : ScriptData) (media : List (List Chunk)) (bs : List ℕ) (run : Run) : Type 0 where
  pub lines : List Line
  pub forms : AreForms script bs lines
  pub shown : run ≡ run_of script media lines
  pub text : bs ≡ report_of script run

-- whether all lines have their form, or which is the first that has not
abbrev pub IsForms : ScriptData → List ℕ → Forms → Type 0
IsForms script bs (forms.Lines v) = AreForms script bs v.items
IsForms script bs (forms.Bad n) = IsBadForm script bs n
