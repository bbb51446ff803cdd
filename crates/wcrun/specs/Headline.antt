-- What `replay FILE`, `run FILE`, `probe FILE`, `load START N` and `check SCRIPT REPORT` write, and with which status they end.
--
-- Status 0 is a whole report, the line of a media file, the summary of a load, or the line that a report is right. Status 1 is the line at
-- fault in one that is wrong, 6 is want of memory, 5 is a failed sink, and 2, 3, 4 and 7 are refusals. What is said of the bytes of files
-- and of the sink holds where they tell them.
use Rattle.std.specs.Prelude.{ℕ, ◌≡◌, ◌≢◌, ◌⊎◌, List, [], ◌∷◌, ◌++◌, Option, Some, None, option_and_then, IfSome, IsSomeAnd, MatchOption, Ok, Err}
use Rattle.wc_base.specs.Causes.{Rose, RoseBy}
use Rattle.wc_base.specs.Told.{appended, AppendsPart}
use Rattle.script_types.specs.declared.fault.Counted.TheVariants as counted
use Rattle.script_types.specs.declared.fault.Fault.{Fault}
use Rattle.script_types.specs.declared.fault.Fault.TheVariants as fault
use Rattle.chunk_files.specs.declared.fault.Stop.TheVariants as stop
use Rattle.script_types.specs.declared.script.ScriptData.{ScriptData}
use Rattle.load_script.specs.declared.words.Load.{Load}
use Rattle.run_model.specs.declared.run.Run.{Run}
use Rattle.run_model.specs.Fits.{IsLegalRun, FitsInOrder}
use Rattle.wc_run.specs.Fits.{FitsByThreads}
use Rattle.trace_text.specs.Report.{report_of}
use Rattle.media_files.specs.Media.{IsReached}
use Rattle.media_files.specs.Within.{HoldBytes}
use Rattle.report_check.specs.Verdict.{IsRight, IsLineAtFault}
use Rattle.wcrun.specs.Refusals.{status_of, line_of, usage_line, memory_line, right_line, wrong_line}
use Rattle.wcrun.specs.Outcome.{Ready, Ending, Runs, Judges, Outcome, Becomes, playable_of, IsOutcome}
use Rattle.wcrun.specs.Probe.{IsMediaLine}
use Rattle.wcrun.specs.Load.{Supply, IsLoaded}
use Rattle.wcrun.specs.Words.{Command}
use Rattle.wcrun.specs.declared.command.Mode.{Mode}
use Rattle.wcrun.specs.declared.command.Mode.TheVariants as mode
use Rattle.wcrun.specs.declared.command.Verb.{Verb}
use Rattle.wcrun.specs.declared.command.Verb.TheVariants as verb

-- What a call was told to do, and what it read: the command of the words, with its file; what the files hold, where they tell it,
-- their counts of faults and of bytes, and the names whose read failed, before the call and after it.
pub record Reading : Type 0 where
  pub command : Option Command
  pub content : Option (List ℕ → Option (List ℕ))
  pub faults_before : ℕ
  pub faults_after : ℕ
  pub bytes_before : ℕ
  pub bytes_after : ℕ
  pub failed_before : List (List ℕ)
  pub failed_after : List (List ℕ)

-- What a call wrote: the sink's bytes, where it tells them, and its count of faults, before the call and after it, and the
-- status.
pub record Writing : Type 0 where
  pub before : Option (List ℕ)
  pub after : Option (List ℕ)
  pub faults_before : ℕ
  pub faults_after : ℕ
  pub answer : ℕ

abbrev pub reading : Option Command → Option (List ℕ → Option (List ℕ)) → ℕ → ℕ → ℕ → ℕ → List (List ℕ) → List (List ℕ) → Reading
reading command content faults_before faults_after bytes_before bytes_after failed_before failed_after = record {
  command = command;
  content = content;
  faults_before = faults_before;
  faults_after = faults_after;
  bytes_before = bytes_before;
  bytes_after = bytes_after;
  failed_before = failed_before;
  failed_after = failed_after;
}

abbrev pub writing : Option (List ℕ) → Option (List ℕ) → ℕ → ℕ → ℕ → Writing
writing before after faults_before faults_after answer =
    record { before = before; after = after; faults_before = faults_before; faults_after = faults_after; answer = answer }

-- What the files hold, as far as they tell it.
abbrev pub Holding : Type 0
Holding = List ℕ → Option (List ℕ)

-- The words are a command, whose file is there, and P holds of the command, what the files hold, and this file's bytes.
abbrev pub OfFile : Reading → (Command → Holding → List ℕ → Type 0) → Type 0
OfFile r P = IsSomeAnd r.command (λ c. IfSome r.content (λ files. IsSomeAnd (files c.file) (P c files)))

-- The same, if there are such a command and its file.
abbrev pub IfFile : Reading → (Command → Holding → List ℕ → Type 0) → Type 0
IfFile r P = IfSome r.command (λ c. IfSome r.content (λ files. IfSome (files c.file) (P c files)))

-- What the files hold is bytes, as far as they tell it.
abbrev pub HoldBytesIn : Reading → Type 0
HoldBytesIn r = IsSomeAnd r.content HoldBytes

-- The file's bytes come to this.
abbrev pub ComesTo : Reading → Outcome → Type 0
ComesTo r outcome = OfFile r (λ c files bytes. IsOutcome c files bytes outcome)

-- how the script of a command is read: that of `check` as one that is replayed
abbrev pub mode_of : Verb → Option Mode
mode_of (verb.Run m) = Some m
mode_of verb.Check = Some mode.InOrder
mode_of _ = None

-- what the words ask for, and of which file
abbrev pub verb_in : Option Command → Option Verb
verb_in None = None
verb_in (Some c) = Some c.verb

abbrev pub file_in : Option Command → Option (List ℕ)
file_in None = None
file_in (Some c) = Some c.file

-- What a run is of a script and the chunks of its chunk files: a replay fits them and follows the order, and one with threads fits
-- them as runs of threads do, and is what these made.
abbrev pub IsRunBy : Mode → Supply → Ready → Run → Type 0
IsRunBy mode.InOrder supply ready run = FitsInOrder ready.script ready.media supply.coders run
IsRunBy (mode.Threads workers) supply ready run = FitsByThreads ready.script ready.media supply.coders supply.clocks run

-- A run that is legal, of the script that the file's bytes spell, with the chunks of its chunk files.
pub record IsRunOf (m : Mode) (r : Reading) (supply : Supply) (ready : Ready) (run : Run) : Type 0 where
  pub spelled : ComesTo r (Ok (Runs ready))
  pub legal : IsLegalRun ready.script run
  pub fits : IsRunBy m supply ready run

-- The text is the report of such a run, for which the words ask.
pub record IsReport (r : Reading) (supply : Supply) (text : List ℕ) : Type 0 where
  pub mode : Mode
  pub asked : verb_in r.command ≡ Some (verb.Run mode)
  pub ready : Ready
  pub run : Run
  pub ran : IsRunOf mode r supply ready run
  pub whole : text ≡ report_of ready.script run

-- The text is the line of the media file for which the words ask.
pub record IsProbe (r : Reading) (text : List ℕ) : Type 0 where
  pub asked : verb_in r.command ≡ Some verb.Probe
  pub bytes : List ℕ
  pub held : OfFile r (λ c files content. content ≡ bytes)
  pub line : IsMediaLine bytes text

-- The text is the summary of the load for which the words ask.
pub record IsSummary (r : Reading) (supply : Supply) (text : List ℕ) : Type 0 where
  pub load : Load
  pub asked : verb_in r.command ≡ Some (verb.Load load)
  pub loaded : IsLoaded load supply text

-- The words ask for a check, and these are the script, its chunks and the report that the files hold.
pub record IsAsked (r : Reading) (ready : Ready) (report : List ℕ) : Type 0 where
  pub asked : verb_in r.command ≡ Some verb.Check
  pub held : ComesTo r (Ok (Judges ready report))

-- The text says that the report which is checked is right, and it is: that of a legal run that fits its script and follows its order.
pub record IsRightReport (r : Reading) (supply : Supply) (text : List ℕ) : Type 0 where
  pub ready : Ready
  pub report : List ℕ
  pub asked : IsAsked r ready report
  pub right : IsRight ready.script ready.media supply.coders report
  pub whole : text ≡ right_line

-- The text names the line at fault of the report which is checked, and the report is wrong.
pub record IsWrongReport (r : Reading) (supply : Supply) (status : ℕ) (text : List ℕ) : Type 0 where
  pub ready : Ready
  pub report : List ℕ
  pub asked : IsAsked r ready report
  pub line : ℕ
  pub at_fault : IsLineAtFault ready.script ready.media supply.coders report line
  pub wrong : HoldBytesIn r → IsRight ready.script ready.media supply.coders report → ⊥
  pub is_status : status ≡ 1
  pub whole : text ≡ wrong_line line

-- The text is what the command writes with status 0.
abbrev pub IsWhole : Reading → Supply → List ℕ → Type 0
IsWhole r supply text = IsReport r supply text ⊎ (IsProbe r text ⊎ (IsSummary r supply text ⊎ IsRightReport r supply text))

-- The text is a beginning of what the command writes.
pub record IsBegun (r : Reading) (supply : Supply) (text : List ℕ) : Type 0 where
  pub all : List ℕ
  pub rest : List ℕ
  pub is_whole : IsWhole r supply all
  pub whole : text ++ rest ≡ all

-- The text is nothing, or a beginning of what the command writes, and then the line for want of memory.
pub record IsCut (r : Reading) (supply : Supply) (text : List ℕ) : Type 0 where
  pub part : List ℕ
  pub begun : (part ≡ []) ⊎ IsBegun r supply part
  pub whole : text ≡ part ++ memory_line

-- The name is that of a chunk file that the script in the command's file mentions, before which each gave its chunks.
abbrev pub IsMentioned : Reading → List ℕ → Type 0
IsMentioned r name =
    (m : Mode) × ((option_and_then mode_of (verb_in r.command) ≡ Some m)
    × OfFile r (λ c files bytes. (s : ScriptData) × (playable_of m bytes ≡ Ok s) × IsReached r.content s name))

-- The name is that of the report which is checked, whose script can be replayed.
abbrev pub IsOfReport : Reading → List ℕ → Type 0
IsOfReport r name =
    (verb_in r.command ≡ Some verb.Check)
    × OfFile r (λ c files bytes. (c.report ≡ name) × ((ready : Ready) × Becomes files (playable_of mode.InOrder bytes) (Ok (Runs ready))))

-- The name is that of the command's file, of a chunk file that the script in it mentions, or of its report.
abbrev pub IsNamed : Reading → List ℕ → Type 0
IsNamed r name = (file_in r.command ≡ Some name) ⊎ (IsMentioned r name ⊎ IsOfReport r name)

-- In this call a read of the file of this name failed, and no other read.
abbrev pub HasFailed : Reading → List ℕ → Type 0
HasFailed r name = Rose r.faults_before r.faults_after × (r.failed_after ≡ r.failed_before ++ name ∷ [])

-- When a fault may come: each as the file's bytes come to it. A file that was not read only where a read of this very
-- file failed; and one that is too long, where it is not told, only where the count of bytes read rose by as much.
abbrev pub Comes : Reading → Fault → Type 0
Comes r (fault.Unread name) = IsNamed r name × HasFailed r name
Comes r (fault.TooMany counted.Script) =
    IsSomeAnd r.command (λ c. MatchOption r.content (RoseBy 16777217 r.bytes_before r.bytes_after) (λ files.
    IsSomeAnd (files c.file) (λ bytes. IsOutcome c files bytes (Err (stop.Fault (fault.TooMany counted.Script))))))
Comes r (fault.TooMany counted.File) =
    IsSomeAnd r.command (λ c. MatchOption r.content (RoseBy 268435457 r.bytes_before r.bytes_after) (λ files.
    IsSomeAnd (files c.file) (λ bytes. IsOutcome c files bytes (Err (stop.Fault (fault.TooMany counted.File))))))
Comes r (fault.TooMany counted.Report) =
    (verb_in r.command ≡ Some verb.Check)
    × IsSomeAnd r.command (λ c. MatchOption r.content (RoseBy 268435457 r.bytes_before r.bytes_after) (λ files.
    IsSomeAnd (files c.file) (λ bytes. IsOutcome c files bytes (Err (stop.Fault (fault.TooMany counted.Report))))))
Comes r x = ComesTo r (Err (stop.Fault x))

-- The text is the line of usage, which comes where the words are no command.
pub record IsUsage (r : Reading) (status : ℕ) (text : List ℕ) : Type 0 where
  pub comes : r.command ≡ None
  pub is_status : status ≡ 2
  pub is_line : text ≡ usage_line

-- The text is the line of a fault that may come, and the status is its own.
pub record TellsFault (r : Reading) (status : ℕ) (text : List ℕ) : Type 0 where
  pub told : Fault
  pub comes : Comes r told
  pub is_status : status ≡ status_of told
  pub is_line : text ≡ line_of told

-- the line of a refusal, or that at fault in a report
abbrev pub IsRefusal : Reading → Supply → ℕ → List ℕ → Type 0
IsRefusal r supply status text = IsUsage r status text ⊎ (TellsFault r status text ⊎ IsWrongReport r supply status text)

-- The four parts. With status 0 the sink's bytes are the earlier ones, followed by what the command writes: the report of a
-- run that is legal and fits the script, the line of the media file, the summary of the load, or that the report is right.
pub record Written (r : Reading) (supply : Supply) (w : Writing) : Type 0 where
  pub text : List ℕ
  pub is_whole : IsWhole r supply text
  pub told : w.after ≡ appended w.before text

-- With status 6 nothing or a beginning of that was added, and then the line `out of memory`.
pub record OutOfMemory (r : Reading) (supply : Supply) (w : Writing) : Type 0 where
  pub text : List ℕ
  pub cut : IsCut r supply text
  pub told : w.after ≡ appended w.before text

-- With status 5 a beginning of a text that another status allows was added, and a write failed in this call.
pub record SinkFailed (r : Reading) (supply : Supply) (w : Writing) : Type 0 where
  pub rose : Rose w.faults_before w.faults_after
  pub text : List ℕ
  pub allowed : IsWhole r supply text ⊎ (IsCut r supply text ⊎ ((status : ℕ) × IsRefusal r supply status text))
  pub part : AppendsPart w.before text w.after

-- With every other status the line of a refusal, or that at fault in a report, was added, which comes only where its cause is.
pub record Refused (r : Reading) (supply : Supply) (w : Writing) : Type 0 where
  pub text : List ℕ
  pub line : IsRefusal r supply w.answer text
  pub told : w.after ≡ appended w.before text

pub record Headline (r : Reading) (supply : Supply) (w : Writing) : Type 0 where
  pub written : w.answer ≡ 0 → Written r supply w
  pub out_of_memory : w.answer ≡ 6 → OutOfMemory r supply w
  pub sink_failed : w.answer ≡ 5 → SinkFailed r supply w
  pub refused : w.answer ≢ 0 → w.answer ≢ 5 → w.answer ≢ 6 → Refused r supply w

-- The status of a verdict: 0 exactly where the report is right, and else 1. Files hold bytes.
pub record IsVerdict (supply : Supply) (files : Holding) (ready : Ready) (report : List ℕ) (answer : ℕ) : Type 0 where
  pub right : answer ≡ 0 → IsRight ready.script ready.media supply.coders report
  pub only : HoldBytes files → IsRight ready.script ready.media supply.coders report → answer ≡ 0
  pub wrong : answer ≢ 0 → answer ≡ 1

-- the status for what a file's bytes come to, where nothing fails
abbrev pub IsStatusFor : Supply → Holding → Outcome → ℕ → Type 0
IsStatusFor supply files (Ok (Judges ready report)) answer = IsVerdict supply files ready report answer
IsStatusFor supply files (Ok ending) answer = answer ≡ 0
IsStatusFor supply files (Err (stop.Fault x)) answer = answer ≡ status_of x
IsStatusFor supply files (Err stop.NoMemory) answer = answer ≡ 6

-- Where no read, no write and no memory fails, the words and what the files hold alone give the status: so 1 comes exactly where the
-- report that is checked is not right, 2 exactly where the words are no command, 7 exactly where a count is above its limit, and 3 exactly where the bytes spell no script
-- that can be run so, a chunk file or the file of `probe` is no media file, or a chunk file lacks a chunk that is taken.
-- Whatever the files hold, the file's bytes come to something.
pub record Decides (r : Reading) (supply : Supply) (w : Writing) : Type 0 where
  pub words : r.command ≡ None → w.answer ≢ 5 → w.answer ≢ 6 → w.answer ≡ 2
  pub file : IfFile r (λ c files bytes. (outcome : Outcome) → IsOutcome c files bytes outcome
      → w.answer ≢ 4 → w.answer ≢ 5 → w.answer ≢ 6 → IsStatusFor supply files outcome w.answer)
  pub some : IfFile r (λ c files bytes. (outcome : Outcome) × IsOutcome c files bytes outcome)

-- the status of what is written in the end: of a verdict 0 or 1
abbrev pub IsEnd : Ending → ℕ → Type 0
IsEnd (Judges ready report) answer = (answer ≡ 0) ⊎ (answer ≡ 1)
IsEnd ending answer = answer ≡ 0

-- Where the file's bytes come to a script that can be run, to a media file's line, or to a report that is judged, and no count of faults
-- rose, the status is 0, or 1 of a verdict, or want of memory.
abbrev pub IsComplete : Reading → Writing → Type 0
IsComplete r w = IfFile r (λ c files bytes. (ending : Ending) → IsOutcome c files bytes (Ok ending) → ¬ Rose r.faults_before r.faults_after → ¬ Rose w.faults_before w.faults_after → w.answer ≢ 6 → IsEnd ending w.answer)
