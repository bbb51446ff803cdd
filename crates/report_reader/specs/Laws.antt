-- What the report of a run tells.
use Rattle.std.specs.Prelude.{ℕ, ◌≡◌, List, IsTrue}
use Rattle.std.specs.List.{AllByRecursion}
use Rattle.wc_chunk.specs.declared.chunk.Chunk.{Chunk}
use Rattle.wc_config.specs.declared.codec.CoderId.{CoderId}
use Rattle.script_types.specs.declared.script.ScriptData.{ScriptData}
use Rattle.script_types.specs.Sound.{is_sound}
use Rattle.run_model.specs.declared.run.Run.{Run}
use Rattle.trace_text.specs.Report.{report_of, lines_of}
use Rattle.run_model.specs.Fits.{FitsInOrder, IsLegalRun}
use Rattle.report_lines.specs.Fits.{AreNames}
use Rattle.report_reader.specs.declared.fault.ReportFault.TheVariants as fault
use Rattle.report_reader.specs.Read.{run_of}
use Rattle.report_reader.specs.Fault.{IsFault}
use Rattle.run_ranges.specs.Ranges.{AreWithin}
use Rattle.report_reader.specs.Told.{IsToldRun, IsPlainTrace, IsTold}

-- the lines of a run show that run, where its histories are told and its outputs are of its codecs' kinds
abbrev pub RunAgain : Type 0
RunAgain = (script : ScriptData) (media : List (List Chunk)) (run : Run) → IsToldRun script media run → AllByRecursion IsPlainTrace run.codecs → run_of script media (lines_of run) ≡ run

-- two runs that are told are equal where their reports are
abbrev pub ReportsDetermineRuns : Type 0
ReportsDetermineRuns = (script : ScriptData) (media : List (List Chunk)) (a b : Run) → AreNames script → IsTold script media a → IsTold script media b → report_of script a ≡ report_of script b → a ≡ b

-- the names of a script with nothing at fault are words and differ
abbrev pub SoundNames : Type 0
SoundNames = (script : ScriptData) → IsTrue (is_sound script) → AreNames script

-- a legal replay of a script in which nothing is at fault is told by its report, where what it is made of is within its types
abbrev pub LegalRunsAreTold : Type 0
LegalRunsAreTold =
    (script : ScriptData) (media : List (List Chunk)) (made : List CoderId) (run : Run) → IsTrue (is_sound script) → AreWithin script media made → IsLegalRun script run → FitsInOrder script media made run → IsTold script media run

-- two such replays of one script with its chunk files that have the same report are equal, whatever boxes were made for each
abbrev pub LegalReportsDetermineRuns : Type 0
LegalReportsDetermineRuns =
    (script : ScriptData) (media : List (List Chunk)) (made other : List CoderId) (a b : Run) → IsTrue (is_sound script) → AreWithin script media made → AreWithin script media other
    → IsLegalRun script a → FitsInOrder script media made a → IsLegalRun script b → FitsInOrder script media other b → report_of script a ≡ report_of script b → a ≡ b

-- at most one line is at fault
abbrev pub FaultIsOne : Type 0
FaultIsOne = (script : ScriptData) (media : List (List Chunk)) (bs : List ℕ) (m n : ℕ) → IsFault script media bs (fault.BadLine m) → IsFault script media bs (fault.BadLine n) → m ≡ n
