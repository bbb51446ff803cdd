-- The runs whose report tells them: each has a report of its own.
use Rattle.std.specs.Prelude.{ℕ, ◌≡◌, ◌+◌, List, [], ◌∷◌, length, map, Some}
use Rattle.std.specs.List.{AllByRecursion, zip}
use Rattle.wc_chunk.specs.declared.chunk.Chunk.{Chunk}
use Rattle.codec_model.specs.declared.entry.Entry.{Entry}
use Rattle.codec_model.specs.declared.entry.Shown.{Shown}
use Rattle.codec_model.specs.Shown.{units_shown}
use Rattle.codec_follow.specs.Follow.{IsFollowed, each_filled}
use Rattle.codec_follow.specs.Outputs.{IsOutputOf}
use Rattle.script_types.specs.declared.script.ScriptData.{ScriptData}
use Rattle.run_model.specs.declared.run.CodecTrace.{CodecTrace}
use Rattle.run_model.specs.declared.run.Run.{Run}
use Rattle.trace_text.specs.Report.{entry_line_of, lines_of}
use Rattle.report_lines.specs.Fits.{FitsLine}
use Rattle.report_reader.specs.declared.known.Known.{Known}
use Rattle.report_reader.specs.Arguments.{entry_of}

-- what a run knows of arguments: its callers' results, the outputs that its codecs showed, and its pool's history
abbrev pub known_of : Run → Known
known_of run = record { callers = run.callers; outputs = map (λ c. units_shown c.shown) run.codecs; pool = run.pool }

-- the entry at this place of the codec with this number is what its line tells, with the arguments of its step
abbrev pub HoldsArguments : ScriptData → List (List Chunk) → Known → ℕ → ℕ → Entry × Shown → Type 0
HoldsArguments script media known k place made = entry_of script media known k place (entry_line_of made.0 made.1) ≡ Some made.0

-- so are the entries from this place on
abbrev pub HoldAll : ScriptData → List (List Chunk) → Known → ℕ → ℕ → List (Entry × Shown) → Type 0
HoldAll script media known k place [] = Unit {0}
HoldAll script media known k place (m ∷ made) = HoldsArguments script media known k place m × HoldAll script media known k (place + 1) made

-- A codec's history follows and holds the arguments of the script's steps, and shows what it shows with its own outputs.
pub record IsToldTrace (script : ScriptData) (media : List (List Chunk)) (known : Known) (k : ℕ) (trace : CodecTrace) : Type 0 where
  pub arguments : HoldAll script media known k 0 (zip trace.entries trace.shown)
  pub follows : IsFollowed trace.opening trace.entries
  pub shows : trace.shown ≡ each_filled trace.opening trace.entries (units_shown trace.shown)

-- Its outputs are of its codec's kind. A config that a chunk carries has a codec string, and a description with bytes or
-- none, since no bytes are written as `-`, as an absent description is.
abbrev pub IsPlainTrace : CodecTrace → Type 0
IsPlainTrace trace = AllByRecursion (IsOutputOf trace.opening.kind) (units_shown trace.shown)

-- the histories of the codecs from this number on are told
abbrev pub AreToldTraces : ScriptData → List (List Chunk) → Known → ℕ → List CodecTrace → Type 0
AreToldTraces script media known k [] = Unit {0}
AreToldTraces script media known k (t ∷ ts) = IsToldTrace script media known k t × AreToldTraces script media known (k + 1) ts

-- The run has the script's callers and codecs, and the history of each codec is told.
pub record IsToldRun (script : ScriptData) (media : List (List Chunk)) (run : Run) : Type 0 where
  pub callers : length run.callers ≡ length script.callers
  pub codecs : length run.codecs ≡ length script.codecs
  pub traces : AreToldTraces script media (known_of run) 0 run.codecs

-- The run's outputs are of their codecs' kinds, and its lines fit the script.
pub record IsWithoutLoss (script : ScriptData) (run : Run) : Type 0 where
  pub plain : AllByRecursion IsPlainTrace run.codecs
  pub fits : AllByRecursion (FitsLine script) (lines_of run)

-- A run that its report tells.
pub record IsTold (script : ScriptData) (media : List (List Chunk)) (run : Run) : Type 0 where
  pub told : IsToldRun script media run
  pub whole : IsWithoutLoss script run
