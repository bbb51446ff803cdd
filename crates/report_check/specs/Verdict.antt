-- Which bytes are the report of a run of a script, and which line is at fault in those that are not (our choice).
use Rattle.std.specs.Prelude.{ℕ, ◌≡◌, ◌≢◌, ◌⊎◌, List}
use Rattle.wc_config.specs.declared.codec.CoderId.{CoderId}
use Rattle.wc_chunk.specs.declared.chunk.Chunk.{Chunk}
use Rattle.script_types.specs.declared.script.ScriptData.{ScriptData}
use Rattle.run_model.specs.declared.run.Run.{Run}
use Rattle.run_model.specs.Fits.{IsLegalRun, FitsInOrder}
use Rattle.trace_text.specs.Report.{report_of}
use Rattle.report_reader.specs.declared.fault.ReportFault.TheVariants as fault
use Rattle.report_reader.specs.Fault.{IsFault, feeds, line_of_difference}
use Rattle.report_reader.specs.Told.{IsTold}
use Rattle.lawful_part.specs.Lawful.{lawful}
use Rattle.report_check.specs.declared.verdict.Verdict.{Verdict}
use Rattle.report_check.specs.declared.verdict.Verdict.TheVariants as verdict

-- The bytes are the report of a run that is legal, fits the script and follows its order. `made` has the ids of the coders that
-- were handed in.
pub record IsRight (script : ScriptData) (media : List (List Chunk)) (made : List CoderId) (bs : List ℕ) : Type 0 where
  pub run : Run
  pub legal : IsLegalRun script run
  pub fits : FitsInOrder script media made run
  pub text : bs ≡ report_of script run

-- the number of the first line in which bytes differ from a text, and of their last line where they are the same
pub record IsFirstLine (text bs : List ℕ) (n : ℕ) : Type 0 where
  pub last : text ≡ bs → n ≡ feeds bs
  pub first : text ≢ bs → n ≡ line_of_difference text bs

-- The bytes are the report of a run that a report tells. The line is the first in which they differ from the report of that run's
-- lawful part: of an entry of a codec that is not legal after those before it, or of an output that is not the one that the codec's
-- definition gives; where there is none, of an entry of the pool, or else of the registry, that is not legal. It is the last line,
-- where the two are the same.
pub record IsUnlawful (script : ScriptData) (media : List (List Chunk)) (made : List CoderId) (bs : List ℕ) (n : ℕ) : Type 0 where
  pub run : Run
  pub told : IsTold script media run
  pub text : bs ≡ report_of script run
  pub number : IsFirstLine (report_of script (lawful script made run)) bs n

-- the line at fault: the first that is at fault as the bytes are read, or else the first that is not lawful
abbrev pub IsLineAtFault : ScriptData → List (List Chunk) → List CoderId → List ℕ → ℕ → Type 0
IsLineAtFault script media made bs n = IsFault script media bs (fault.BadLine n) ⊎ IsUnlawful script media made bs n

abbrev pub IfWrong : Verdict → (ℕ → Type 0) → Type 0
IfWrong verdict.Right P = Unit {0}
IfWrong (verdict.Wrong n) P = P n
