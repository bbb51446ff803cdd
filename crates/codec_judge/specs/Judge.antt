-- A codec that is made again, with its job and a lender of coders.
use Rattle.std.specs.Prelude.{ℕ, ◌≡◌, ◌≤◌, Bool, true, false, List, [], ◌∷◌, ◌++◌, length, take, Option, Some, None, is_some, not}
use Rattle.wc_config.specs.declared.codec.CoderId.{CoderId}
use Rattle.coder_api.specs.Lent.{Lent}
use Rattle.codec_model.specs.declared.entry.Entry.{Entry}
use Rattle.codec_model.specs.declared.entry.Outcome.{Outcome}
use Rattle.codec_model.specs.declared.entry.Entry.TheVariants as entry
use Rattle.codec_model.specs.declared.entry.Outcome.TheVariants as outcome
use Rattle.codec_model.specs.declared.entry.CodecState.{CodecState}
use Rattle.codec_model.specs.declared.entry.CodecState.TheVariants.{Unconfigured, Configured, Closed}
use Rattle.codec_model.specs.declared.entry.Handed.{Handed}
use Rattle.codec_model.specs.declared.entry.Handed.TheVariants as handed
use Rattle.codec_model.specs.Replay.{replay}
use Rattle.codec_model.specs.Shown.{each_shown}
use Rattle.legal_fronts.specs.Fronts.{legal_entries}
use Rattle.codec_core.specs.Codec.{Codec, RemovedValue, state_at}
use Rattle.codec_core.specs.Job.{JobValue, IsJobOf, missing_id, with_box}
use Rattle.codec_core.specs.Owning.{IsOwnJob}
use Rattle.codec_judge.specs.Lawful.{lack_at, is_lawful_next, has_coder}
use Rattle.codec_judge.specs.Lender.{LenderValue, id_in}

-- the box that the codec has: its job has it while an item is at work
abbrev pub box_held : Option Lent → Option JobValue → Option Lent
box_held slot None = slot
box_held slot (Some job) = job.coder

-- The job is that of the item at work, the codec's own, and lacks the coder that its start says.
pub record IsOut (core : Codec) (job : JobValue) : Type 0 where
  pub matches : IsJobOf (state_at core) job
  pub own : IsOwnJob core.out job
  pub lacks : missing_id job ≡ lack_at core.opening core.history
  -- while an item is at work its codec has no box
  pub away : core.slot ≡ None

-- the job is out exactly while an item is at work
abbrev pub JobIsOut : Codec → Option JobValue → Type 0
JobIsOut core None = (state_at core).control.running ≡ None
JobIsOut core (Some job) = IsOut core job

-- The codec's history is legal, its job is out while an item is at work, and the coder that is out is in its box.
pub record IsJudged (core : Codec) (job : Option JobValue) (lender : LenderValue) : Type 0 where
  pub legal : replay core.opening core.history ≡ Some (state_at core)
  pub job_out : JobIsOut core job
  pub box_out : lender.out ≡ id_in (box_held core.slot job)

-- an entry that is lawful was made; else the history stands, but for an entry behind it
abbrev pub IsGrown : Bool → Entry → List Entry → List Entry → Type 0
IsGrown true e history new = new ≡ history ++ e ∷ []
IsGrown false e history new = take (length history) new ≡ history

-- The entry was judged: whether it is lawful, and what the codec came to.
pub record Judges (lender : LenderValue) (old : Codec) (e : Entry) (lawful : Bool) (new : Codec) (job : Option JobValue) (next : LenderValue) : Type 0 where
  pub stands : IsJudged new job next
  pub same_home : next.home ≡ lender.home
  pub same_opening : new.opening ≡ old.opening
  pub is_lawful : lawful ≡ is_lawful_next lender.home old.opening old.history e
  pub grown : IsGrown lawful e old.history new.history

-- a job that lacks a box has none
abbrev pub IsEmptied : JobValue → Type 0
IsEmptied job = is_some (missing_id job) ≡ true → job.coder ≡ None

-- the same job, with another box or none
abbrev pub IsSameJob : JobValue → JobValue → Type 0
IsSameJob old new = new ≡ with_box new.coder old

-- the outcome of the end that an entry is, if it is one
abbrev pub outcome_in : Option Entry → Option Outcome
outcome_in (Some (entry.Done epoch item moment o)) = Some o
outcome_in _ = None

-- the state is configured
abbrev pub is_phase_configured : CodecState → Bool
is_phase_configured s = elim s [ Unconfigured ↦ false | Configured ↦ true | Closed ↦ false ]

-- an encode tells so what became of its medium, in this state of the codec
abbrev pub may_hand_in : Handed → CodecState → Bool
may_hand_in handed.Gone s = true
may_hand_in handed.Kept s = not (is_phase_configured s)
may_hand_in (handed.Cloned medium) s = is_phase_configured s

-- A job has the box that it needs; where there is no coder for it, it lacks what it lacked.
abbrev pub IsFilled : List CoderId → Option CoderId → Bool → Option CoderId → Type 0
IsFilled made None filled after = (filled ≡ true) × (after ≡ None)
IsFilled made (Some id) true after = (after ≡ None) × (has_coder id made ≡ true)
IsFilled made (Some id) false after = (after ≡ Some id) × (has_coder id made ≡ false)

-- the box that a removal hands back
abbrev pub box_removed : Option RemovedValue → Option Lent
box_removed None = None
box_removed (Some r) = r.coder

-- the work of an item was done
abbrev pub is_worked : Outcome → Bool
is_worked (outcome.Ran units) = true
is_worked outcome.Refused = true
is_worked _ = false

-- A walk over these entries ended behind so many that are lawful.
pub record HasWalked (first : LenderValue) (begun : Codec) (entries : List Entry) (count : ℕ) (core : Codec) (job : Option JobValue) (lender : LenderValue) : Type 0 where
  pub stands : IsJudged core job lender
  pub home : lender.home ≡ first.home
  pub opening : core.opening ≡ begun.opening
  pub counted : count ≡ legal_entries (is_lawful_next first.home begun.opening) entries
  pub within : count ≤ length core.history
  pub front : take count core.history ≡ take count entries

-- of what the entries of a codec's history show, the first show what they showed before
abbrev pub ShowsFront : Codec → Codec → Type 0
ShowsFront old new = (n : ℕ) → n ≤ length old.history → take n (each_shown new.opening new.history) ≡ each_shown old.opening (take n old.history)
