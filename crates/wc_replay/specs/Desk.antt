-- A codec at work in a replay.
use Rattle.std.specs.Prelude.{ℕ, ◌≡◌, Bool, true, List, [], ◌++◌, map, Option, Some, None, is_some, option_map, if◌then◌else◌}
use Rattle.coder_api.specs.Lent.{Lent}
use Rattle.wc_config.specs.declared.codec.CoderId.{CoderId}
use Rattle.slot_registry.specs.Slots.{SlotsValue}
use Rattle.codec_definitions.specs.declared.unit.Unit as media
use Rattle.codec_model.specs.declared.entry.Entry.{Entry}
use Rattle.codec_model.specs.{Replay.State, Replay.replay, Control.may_take}
use Rattle.codec_model.specs.Held.{waiting_held}
use Rattle.wc_base.specs.declared.who.By.{By}
use Rattle.wc_replay.specs.declared.desk.Output.{Output}
use Rattle.media_variables.specs.Held.{IsEnoughUnit}
use Rattle.run_model.specs.Recorded.{output_at}
use Rattle.run_model.specs.Follow.{media_by}
use Rattle.codec_core.specs.Codec.{Codec, state_at}
use Rattle.codec_core.specs.Job.{JobValue, IsJobOf, missing_id}
use Rattle.codec_core.specs.Owning.{IsOwnJob}
use Rattle.codec_accounts.specs.Registry.{BoxOut}
use Rattle.codec_accounts.specs.Codec.{Holding, CodecValue, state_of, BoxStep, Keep, Renew, after_entry, slots_by}
use Rattle.codec_model.specs.declared.entry.Pair.{Pair}
use Rattle.codec_media.specs.Holding as references
use Rattle.media_variables.specs.Held.{pair_of, ends_behind}
use Rattle.media_variables.specs.Variables.{Media}

-- a box that is out
abbrev pub box_out : Lent → BoxOut
box_out lent = record { id = lent.id; number = lent.number; by = lent.by }

abbrev pub holding_with : Option Lent → Option ℕ → Holding
holding_with coder refusal = record { box = option_map box_out coder; refusal = refusal }

-- the box that a codec holds: its job has it while an item is running
abbrev pub box_of : Option Lent → Option JobValue → Option BoxOut
box_of slot None = option_map box_out slot
box_of slot (Some job) = option_map box_out job.coder

abbrev pub holding_of : Option Lent → Option JobValue → Option ℕ → Holding
holding_of slot job refusal = record { box = box_of slot job; refusal = refusal }

-- the job is that of the running item
abbrev pub JobMatches : State → Option JobValue → Type 0
JobMatches s None = s.control.running ≡ None
JobMatches s (Some job) = IsJobOf s job

-- a job that lacks a box has none; one that was refused a box lacks one
abbrev pub LacksBox : JobValue → Option ℕ → Type 0
LacksBox job None = is_some (missing_id job) ≡ true → job.coder ≡ None
LacksBox job (Some entry) = (is_some (missing_id job) ≡ true) × (job.coder ≡ None)

-- only a job may have been refused a box
abbrev pub IsRefused : Option JobValue → Option ℕ → Type 0
IsRefused None refusal = refusal ≡ None
IsRefused (Some job) refusal = LacksBox job refusal

-- a job that is out is the codec's own
abbrev pub OwnsJob : Codec → Option JobValue → Type 0
OwnsJob core None = Unit {0}
OwnsJob core (Some job) = IsOwnJob core.out job

-- the job is out exactly while an item is running
pub record IsDesk (core : Codec) (job : Option JobValue) (refusal : Option ℕ) : Type 0 where
  pub legal : replay core.opening core.history ≡ Some (state_at core)
  pub matches : JobMatches (state_at core) job
  pub refused : IsRefused job refusal
  pub own : OwnsJob core job
  -- while an item is running its codec has no box
  pub away : is_some job ≡ true → core.slot ≡ None

-- the output of a codec that is taken next, if one is left
abbrev pub next_output : CodecValue → Option media.Unit
next_output d = output_at d.opening d.history (state_of d).control.taken

-- the next output of a codec, if one is left, with its number
abbrev pub IsNext : CodecValue → Option Output → Type 0
IsNext d None = next_output d ≡ None
IsNext d (Some x) = (next_output d ≡ Some x.unit) × (x.number ≡ (state_of d).control.taken) × IsEnoughUnit x.unit × (may_take x.number (state_of d).control ≡ true)

-- a job that lacks a box of this id renews its box
abbrev pub renewal : Option CoderId → BoxStep
renewal None = Keep
renewal (Some id) = Renew id

-- what a removal lets go, if there was one: the box, and the references
abbrev pub box_in : Option references.RemovedValue → Option Lent
box_in None = None
box_in (Some r) = r.coder

abbrev pub pairs_in : Option references.RemovedValue → List Pair
pairs_in None = []
pairs_in (Some r) = map pair_of r.media

-- the callers' media after the ends of these references by one cause
abbrev pub media_without : By → List Pair → Media → Media
media_without by ps m = record m { pool = m.pool ++ ends_behind by m.pool ps }

-- what waits, where it is let go
abbrev pub waiting_if : Bool → State → List Pair
waiting_if goes s = if goes then waiting_held s.control else []

-- ---- after an entry, if one is made

abbrev pub codec_by : ℕ → Option Entry → SlotsValue → CodecValue → CodecValue
codec_by k None s d = d
codec_by k (Some e) s d = after_entry k e s d

abbrev pub registry_by : ℕ → Option Entry → SlotsValue → CodecValue → SlotsValue
registry_by k None s d = s
registry_by k (Some e) s d = slots_by k e s d

abbrev pub media_by_option : ℕ → Option Entry → CodecValue → Media → Media
media_by_option k None d m = m
media_by_option k (Some e) d m = media_by k e d m

-- The codec with this number made this entry, or none: what became of it, of the registry and of the callers' media.
pub record Makes (k : ℕ) (e : Option Entry) (s next : SlotsValue) (m after : Media) (d new : CodecValue) : Type 0 where
  pub codec : new ≡ codec_by k e s d
  pub registry : next ≡ registry_by k e s d
  pub media : after ≡ media_by_option k e d m
