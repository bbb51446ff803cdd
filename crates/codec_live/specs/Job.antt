-- A job and its end as contracts see them, and what they stand for.
use Rattle.std.specs.Prelude.{ℕ, ◌≡◌, Bool, true, false, ◌&&◌, List, [], ◌∷◌, ◌++◌, length, Option, Some, None, is_some, option_map, option_and_then, IfNone, Result, Ok, Err}
use Rattle.wc_config.specs.declared.codec.CoderId.{CoderId}
use Rattle.wc_config.specs.declared.config.Config.{Config}
use Rattle.wc_config.specs.declared.config.AudioDecoderConfig.{AudioDecoderConfig}
use Rattle.wc_config.specs.Configs.{is_supported, coder_id_of}
use Rattle.codec_definitions.specs.declared.unit.Unit as media
use Rattle.codec_definitions.specs.declared.unit.Unit.TheVariants as unit_of
use Rattle.codec_definitions.specs.declared.command.Command.{Command}
use Rattle.coder_api.specs.declared.coder.CoderFault.{CoderFault}
use Rattle.coder_api.specs.declared.coder.CoderFault.TheVariants as fault
use Rattle.codec_definitions.specs.Answers.{answer_after}
use Rattle.coder_api.specs.Meaning.{Meaning, IsAt, IsConfigured, serves}
use Rattle.coder_api.specs.Lent.{Lent, stopped_lent, with_token}
use Rattle.codec_model.specs.declared.entry.Work.{Work}
use Rattle.codec_model.specs.declared.entry.WorkKind.{WorkKind}
use Rattle.codec_model.specs.declared.entry.Ended.{Ended}
use Rattle.codec_model.specs.declared.entry.Ended.TheVariants as ended
use Rattle.codec_model.specs.declared.entry.Outcome.{Outcome}
use Rattle.codec_model.specs.declared.entry.Outcome.TheVariants as outcome
use Rattle.codec_model.specs.declared.entry.Running.{Running}
use Rattle.codec_queues.specs.Labels.{label_of}
use Rattle.codec_model.specs.Control.{kind_of}
use Rattle.codec_model.specs.Replay.{Given, State, nothing_given, config_asked, coder_wanted, given_more, answer_to, ended_of, labelled}

-- an item that is at work, with the box that its codec held
pub record JobValue : Type 0 where
  pub epoch : ℕ
  pub number : ℕ
  -- the place of its Start
  pub place : ℕ
  pub work : Work
  pub coder : Option Lent

-- an item that ended, with the box that it used
pub record DoneValue : Type 0 where
  pub epoch : ℕ
  pub number : ℕ
  pub kind : WorkKind
  pub ended : Ended
  pub coder : Option Lent

-- the box that is there serves this config
abbrev pub holds : Option Lent → Config → Bool
holds None config = false
holds (Some lent) config = serves lent.id config

-- the coder id of which a configure item needs a box that is not there: its config is supported, and no box serves it
abbrev pub missing_for : Work → Option Lent → Option CoderId
missing_for w coder = option_and_then (coder_wanted (holds coder)) (config_asked w)

abbrev pub missing_id : JobValue → Option CoderId
missing_id job = missing_for job.work job.coder

-- a box as it is handed back: stopped
abbrev pub stopped_box : Option Lent → Option Lent
stopped_box coder = option_map stopped_lent coder

-- which box it is: all of it but what its coder means, and its token
abbrev pub named_lent : Lent → Lent
named_lent lent = with_token None (stopped_lent lent)

abbrev pub named_box : Option Lent → Option Lent
named_box coder = option_map named_lent coder

-- a box that is asked for commands is configured
abbrev pub IsReadyBox : Option Lent → Type 0
IsReadyBox None = Unit {0}
IsReadyBox (Some lent) = IsConfigured lent.meaning

-- a configure item goes with any box
abbrev pub IsReady : Work → Option Lent → Type 0
IsReady w coder = IfNone (config_asked w) (IsReadyBox coder)

-- none of the commands was refused after those before it
abbrev pub none_refused_from : CoderId → Config → List Command → List Command → Bool
none_refused_from id config before [] = true
none_refused_from id config before (x ∷ xs) = is_some (answer_after id config before x) && none_refused_from id config (before ++ x ∷ []) xs

-- the lent coder was given all this, and none of it was refused
pub record WasGiven (lent : Lent) (g : Given) : Type 0 where
  pub asked : coder_id_of g.config ≡ Some lent.id
  pub supported : is_supported g.config ≡ true
  pub meant : IsAt lent.id g.config g.commands lent.meaning
  pub accepted : none_refused_from lent.id g.config [] g.commands ≡ true

-- all that was given was given to the coder of this box; with nothing given there is none
abbrev pub CoderAt : Option Lent → Given → Type 0
CoderAt None g = g ≡ nothing_given
CoderAt (Some lent) g = WasGiven lent g

-- a coded or flush item goes with the box that was given all before; any box may go with a configure item
abbrev pub CoderFor : Work → Option Lent → Given → Type 0
CoderFor w coder before = IfNone (config_asked w) (CoderAt coder before)

-- after an item that ran, the box may be asked for more
abbrev pub ReadyAfter : Ended → Option Lent → Type 0
ReadyAfter (ended.Ran units) coder = IsReadyBox coder
ReadyAfter _ coder = Unit {0}

-- an end goes with a copy of the config that its outputs carry, and with a box that may be asked for more
pub record IsDone (end : Ended) (label : Option AudioDecoderConfig) (coder : Option Lent) : Type 0 where
  pub labels : label ≡ label_of end
  pub ready : ReadyAfter end coder

-- the job's work is the last of what was given
pub record IsJob (g : Given) (job : JobValue) : Type 0 where
  pub before : Given
  pub more : given_more job.work before ≡ g
  pub box : CoderFor job.work job.coder before

-- the job of the running item of this state
pub record IsJobOf (s : State) (job : JobValue) : Type 0 where
  pub running : Running
  pub is_running : s.control.running ≡ Some running
  pub same_epoch : running.epoch ≡ job.epoch
  pub same_number : running.number ≡ job.number
  pub same_kind : running.kind ≡ kind_of job.work
  pub given : IsJob s.running_given job

abbrev pub outcome_of : Ended → Outcome
outcome_of (ended.Ran units) = outcome.Ran (length units)
outcome_of ended.Refused = outcome.Refused
outcome_of (ended.NoSlot entry) = outcome.NoSlot entry
outcome_of ended.NoMemory = outcome.NoMemory

-- after an item that ran, the coder was given it too
abbrev pub StillAt : Ended → Option Lent → Given → Type 0
StillAt (ended.Ran units) coder g = CoderAt coder g
StillAt _ coder g = Unit {0}

-- the end that the codec's definition gives for the last of what was given, or want of a coder or of memory
pub record IsEnd (g : Given) (d : DoneValue) : Type 0 where
  pub legal : ended_of d.kind g (outcome_of d.ended) ≡ Some d.ended
  pub box : StillAt d.ended d.coder g

-- the end of the running item of this state
pub record IsEndOf (s : State) (d : DoneValue) : Type 0 where
  pub running : Running
  pub is_running : s.control.running ≡ Some running
  pub same_epoch : running.epoch ≡ d.epoch
  pub same_number : running.number ≡ d.number
  pub same_kind : running.kind ≡ d.kind
  pub end : IsEnd s.running_given d

-- the job with another box, or none
abbrev pub with_box : Option Lent → JobValue → JobValue
with_box coder job = record job { coder = coder }

-- the job's end
abbrev pub done_with : Ended → JobValue → DoneValue
done_with end job = record { epoch = job.epoch; number = job.number; kind = kind_of job.work; ended = end; coder = job.coder }

abbrev pub wants : Ended → Bool
wants ended.NoMemory = true
wants _ = false

-- an end by an answer of the codec's definition, or by want of memory
abbrev pub EndsBy : Option (List media.Unit) → Ended → Type 0
EndsBy answer (ended.Ran units) = answer ≡ Some units
EndsBy answer ended.Refused = answer ≡ None
EndsBy answer (ended.NoSlot entry) = ⊥
EndsBy answer ended.NoMemory = Unit {0}

-- after a command that ran, the coder was given it too
abbrev pub StaysAt : Ended → CoderId → Config → List Command → Lent → Type 0
StaysAt (ended.Ran units) id config commands lent = IsAt id config commands lent.meaning
StaysAt _ id config commands lent = Unit {0}

-- after a command that ran, the coder may be asked for more
abbrev pub IsReadyEnd : Ended → Meaning → Type 0
IsReadyEnd (ended.Ran units) m = IsConfigured m
IsReadyEnd _ m = Unit {0}

-- One command to a lent coder: its end is the definition's answer after all commands before it.
pub record EndsCommand (old : Lent) (x : Command) (end : Ended) (new : Lent) : Type 0 where
  pub answer : (config : Config) (before : List Command) → coder_id_of config ≡ Some old.id → IsAt old.id config before old.meaning → EndsBy (answer_after old.id config before x) end
  pub goes : (config : Config) (before : List Command) → IsAt old.id config before old.meaning → StaysAt end old.id config (before ++ x ∷ []) new
  pub ready : IsReadyEnd end new.meaning
  pub same : stopped_lent new ≡ stopped_lent old

-- the end that a coder's answer to one command makes, with the units that it appended
abbrev pub end_by : Result (Unit {0}) CoderFault → List media.Unit → Ended
end_by (Ok t) units = ended.Ran units
end_by (Err fault.Refused) units = ended.Refused
end_by (Err fault.NoMemory) units = ended.NoMemory

-- the first of an end's outputs carries this config, if it is an encoder's
abbrev pub labelled_end : Option AudioDecoderConfig → Ended → Ended
labelled_end config (ended.Ran units) = ended.Ran (labelled config units)
labelled_end config ended.Refused = ended.Refused
labelled_end config (ended.NoSlot entry) = ended.NoSlot entry
labelled_end config ended.NoMemory = ended.NoMemory

-- the first of these outputs is an encoder's
abbrev pub starts_coded : List media.Unit → Bool
starts_coded (unit_of.Coded chunk config ∷ us) = true
starts_coded us = false

-- an end, or want of memory in its place
abbrev pub IsOrWants : Ended → Ended → Type 0
IsOrWants end ended.NoMemory = Unit {0}
IsOrWants end e = e ≡ end

-- One item to the box that is there: its end is the definition's after all that was given before it.
pub record EndsWork (old : Option Lent) (w : Work) (end : Ended) (new : Option Lent) : Type 0 where
  pub answer : (before : Given) → CoderFor w old before → EndsBy (answer_to (kind_of w) (given_more w before)) end
  pub still : (before : Given) → CoderFor w old before → StillAt end new (given_more w before)
  pub same : stopped_box new ≡ stopped_box old
  pub ready : ReadyAfter end new
