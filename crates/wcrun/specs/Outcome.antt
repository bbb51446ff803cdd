-- What the bytes of the file of a command come to, where the files hold the rest.
--
-- Those of a script file come to a script that is run and the chunks of its chunk files, or to why there is no run.
-- The first cause decides: the file's length, the faults of the script in the order of the walk, an order that is absent where
-- one is followed, the chunk files in order of first mention, and the first chunk that its file lacks. Those of a media file come
-- to the line that tells of it, or to why there is none: the file's length first, and then the first fault of its format. The script of
-- `check` comes to what a script comes to that is replayed, and then its report to its bytes, if it is there and not too long.
use Rattle.std.specs.Prelude.{ℕ, ◌≡◌, ◌≤◌, ◌<◌, nat_lt, if◌then◌else◌, List, [], length, Option, Some, None, unwrap_or, Result, Ok, Err}
use Rattle.std.specs.List.{slice_get}
use Rattle.wc_chunk.specs.declared.chunk.Chunk.{Chunk}
use Rattle.script_types.specs.declared.fault.Counted.TheVariants as counted
use Rattle.script_types.specs.declared.fault.Fault.{Fault}
use Rattle.script_types.specs.declared.fault.Fault.TheVariants as fault
use Rattle.script_types.specs.declared.fault.Place.{Place}
use Rattle.script_types.specs.declared.fault.Place.TheVariants as place
use Rattle.chunk_files.specs.declared.fault.Stop.{Stop}
use Rattle.chunk_files.specs.declared.fault.Stop.TheVariants as stop
use Rattle.script_types.specs.declared.fault.Wrong.TheVariants as wrong
use Rattle.script_types.specs.declared.script.OrderItem.{OrderItem}
use Rattle.script_types.specs.declared.script.ScriptData.{ScriptData}
use Rattle.script_types.specs.Limits.{most_file, most_report}
use Rattle.media_files.specs.Media.{Answers, GivesMedia}
use Rattle.wc_demux.specs.Media.{IsMediaFault}
use Rattle.wc_script.specs.Read.{script_of}
use Rattle.run_model.specs.Missing.{missing_in}
use Rattle.wcrun.specs.Probe.{IsMediaLine}
use Rattle.wcrun.specs.Words.{Command}
use Rattle.wcrun.specs.declared.command.Mode.{Mode}
use Rattle.wcrun.specs.declared.command.Mode.TheVariants as mode
use Rattle.wcrun.specs.declared.command.Verb.{Verb}
use Rattle.wcrun.specs.declared.command.Verb.TheVariants as verb

-- a script that can be run, or why there is none
abbrev pub Playable : Type 0
Playable = Result ScriptData (Stop Fault)

-- a script without an order is not replayed; threads want none
abbrev pub if_playable : Mode → Option (List OrderItem) → ScriptData → Playable
if_playable mode.InOrder None s = Err (stop.Fault (fault.At place.Top wrong.Shape))
if_playable mode.InOrder (Some items) s = Ok s
if_playable (mode.Threads workers) order s = Ok s

abbrev pub if_spelled : Mode → Playable → Playable
if_spelled m (Ok s) = if_playable m s.order s
if_spelled m (Err e) = Err e

-- the script that bytes spell and that can be run so, or why there is none
abbrev pub playable_of : Mode → List ℕ → Playable
playable_of m bytes =
    if nat_lt 16777216 (length bytes) then Err (stop.Fault (fault.TooMany counted.Script)) else if_spelled m (script_of bytes)

-- the name of a chunk file
abbrev pub name_of : ScriptData → ℕ → List ℕ
name_of s file = unwrap_or (slice_get s.chunk_files file) []

-- a script that can be run, with the chunks of its files
pub record Ready : Type 0 where
  pub script : ScriptData
  pub media : List (List Chunk)

-- what is written in the end: the report of a script's run, the line of a media file, the summary of a load, or the verdict on the
-- bytes of a report
pub data Ending : Type 0 where
  Runs : Ready → Ending
  Tells : List ℕ → Ending
  Loads : Ending
  Judges : Ready → List ℕ → Ending

-- what a file comes to, or why it comes to nothing
abbrev pub Outcome : Type 0
Outcome = Result Ending (Stop Fault)

-- each chunk that a step takes has to be there
abbrev pub if_there : ScriptData → List (List Chunk) → Option (ℕ × Place) → Outcome
if_there s media None = Ok (Runs (record { script = s; media = media }))
if_there s media (Some lack) = Err (stop.Fault (fault.NoIndex (name_of s lack.0) lack.1))

abbrev pub ready_of : ScriptData → Answers → Outcome
ready_of s (Ok media) = if_there s media (missing_in s media)
ready_of s (Err e) = Err e

-- what a script that can be run comes to
abbrev pub Becomes : (List ℕ → Option (List ℕ)) → Playable → Outcome → Type 0
Becomes files (Ok s) outcome = (media : Answers) × GivesMedia files s media × (outcome ≡ ready_of s media)
Becomes files (Err e) outcome = outcome ≡ Err e

-- what the bytes of a media file of this name come to
abbrev pub IsProbed : List ℕ → List ℕ → Outcome → Type 0
IsProbed name bytes (Ok (Tells text)) = IsMediaLine bytes text
IsProbed name bytes (Err (stop.Fault (fault.TooMany counted.File))) = most_file < length bytes
IsProbed name bytes (Err (stop.Fault (fault.Chunks n e))) = (n ≡ name) × (length bytes ≤ most_file) × IsMediaFault bytes e
IsProbed _ _ _ = ⊥

-- what the report of this name comes to for a script that can be run, by its bytes, if it is there
abbrev pub judged_by : List ℕ → Option (List ℕ) → Ready → Outcome
judged_by name None ready = Err (stop.Fault (fault.Unread name))
judged_by name (Some report) ready =
    if nat_lt most_report (length report) then Err (stop.Fault (fault.TooMany counted.Report)) else Ok (Judges ready report)

abbrev pub judged_of : List ℕ → Option (List ℕ) → Outcome → Outcome
judged_of name report (Ok (Runs ready)) = judged_by name report ready
judged_of name report outcome = outcome

-- what the bytes of a script and the report of this name come to
pub record IsJudged (files : List ℕ → Option (List ℕ)) (bytes name : List ℕ) (outcome : Outcome) : Type 0 where
  pub script : Outcome
  pub becomes : Becomes files (playable_of mode.InOrder bytes) script
  pub judged : outcome ≡ judged_of name (files name) script

-- a load reads no file
abbrev pub ComesBy : Verb → List ℕ → List ℕ → (List ℕ → Option (List ℕ)) → List ℕ → Outcome → Type 0
ComesBy (verb.Run m) name report files bytes outcome = Becomes files (playable_of m bytes) outcome
ComesBy verb.Probe name report files bytes outcome = IsProbed name bytes outcome
ComesBy (verb.Load load) name report files bytes outcome = outcome ≡ Ok Loads
ComesBy verb.Check name report files bytes outcome = IsJudged files bytes report outcome

-- what the bytes of a command's file come to
abbrev pub IsOutcome : Command → (List ℕ → Option (List ℕ)) → List ℕ → Outcome → Type 0
IsOutcome c files bytes outcome = ComesBy c.verb c.file c.report files bytes outcome
