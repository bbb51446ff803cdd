-- Why there is no run of a script, or no line of a media file, and when that may be.
use Rattle.std.specs.Prelude.{ℕ, ◌≡◌, ◌<◌, List, [], ◌∷◌, ◌++◌, length, Option, IfSome, IsSomeAnd, MatchOption, Ok, Err}
use Rattle.wc_base.specs.Causes.{Rose, RoseBy}
use Rattle.script_types.specs.declared.fault.Counted.TheVariants as counted
use Rattle.script_types.specs.declared.fault.Fault.{Fault}
use Rattle.script_types.specs.declared.fault.Fault.TheVariants as fault
use Rattle.chunk_files.specs.declared.fault.Stop.{Stop}
use Rattle.chunk_files.specs.declared.fault.Stop.TheVariants as stop
use Rattle.script_types.specs.declared.script.ScriptData.{ScriptData}
use Rattle.script_types.specs.Limits.{most_report}
use Rattle.media_files.specs.Media.{IsReached}
use Rattle.wc_demux.specs.Media.{IsMediaFault}
use Rattle.wcrun.specs.Headline.{Reading, Comes, Holding}
use Rattle.wcrun.specs.Outcome.{Becomes}

-- a fault has its cause, and want of memory needs none
abbrev pub MayStop : Reading → Stop Fault → Type 0
MayStop r (stop.Fault x) = Comes r x
MayStop r stop.NoMemory = Unit {0}

-- When there is no run of a script that can be replayed, by its chunk files.
abbrev pub MayStopFor : Option Holding → ScriptData → ℕ → ℕ → ℕ → ℕ → Stop Fault → Type 0
MayStopFor content s faults_before faults_after bytes_before bytes_after (stop.Fault (fault.Unread name)) =
    IsReached content s name × Rose faults_before faults_after
MayStopFor content s faults_before faults_after bytes_before bytes_after (stop.Fault (fault.TooMany counted.File)) =
    MatchOption content (RoseBy 268435457 bytes_before bytes_after)
    (λ files. Becomes files (Ok s) (Err (stop.Fault (fault.TooMany counted.File))))
MayStopFor content s faults_before faults_after bytes_before bytes_after (stop.Fault (fault.TooMany counted.Script)) = ⊥
MayStopFor content s faults_before faults_after bytes_before bytes_after (stop.Fault (fault.TooMany counted.Report)) = ⊥
MayStopFor content s faults_before faults_after bytes_before bytes_after stop.NoMemory = Unit {0}
MayStopFor content s faults_before faults_after bytes_before bytes_after e =
    IfSome content (λ files. Becomes files (Ok s) (Err e))

-- Why there is no line of a media file of this name with these bytes, which are no more than a file may have.
abbrev pub MayStopProbe : List ℕ → List ℕ → Stop Fault → Type 0
MayStopProbe name bytes (stop.Fault (fault.Chunks n e)) = (n ≡ name) × IsMediaFault bytes e
MayStopProbe name bytes stop.NoMemory = Unit {0}
MayStopProbe _ _ _ = ⊥

-- Why the report of this name was not read: a read of this very file failed, or it is too long, or memory was wanted.
abbrev pub MayStopReport : Option Holding → List ℕ → ℕ → ℕ → ℕ → ℕ → List (List ℕ) → List (List ℕ) → Stop Fault → Type 0
MayStopReport content name faults_before faults_after bytes_before bytes_after failed_before failed_after (stop.Fault (fault.Unread n)) =
    (n ≡ name) × (Rose faults_before faults_after × (failed_after ≡ failed_before ++ n ∷ []))
MayStopReport content name faults_before faults_after bytes_before bytes_after failed_before failed_after (stop.Fault (fault.TooMany counted.Report)) =
    MatchOption content (RoseBy 268435457 bytes_before bytes_after) (λ files. IsSomeAnd (files name) (λ bytes. most_report < length bytes))
MayStopReport content name faults_before faults_after bytes_before bytes_after failed_before failed_after stop.NoMemory = Unit {0}
MayStopReport _ _ _ _ _ _ _ _ _ = ⊥
