-- Codecs behind locks: what the locked value stands for, and what a seat's passage tells.
use Rattle.std.specs.Prelude.{ℕ, ◌≡◌, ◌+◌, ◌≤◌, not, Bool, true, false, List, [], ◌∷◌, ◌++◌, Option, Some, None, is_some}
use Rattle.std.specs.List.{count_by}
use Rattle.atomic_table.specs.Seated.{TableId}
use Rattle.atomic_table.specs.declared.shared.Seat.{Seat}
use Rattle.wc_base.specs.declared.seat.Passage.{Passage}
use Rattle.wc_base.specs.declared.seat.Passage.TheVariants.{Made, Look}
use Rattle.wc_base.specs.declared.seat.View.{View}
use Rattle.wc_base.specs.Views.{Log}
use Rattle.coder_api.specs.declared.slot.SlotEntry.{SlotEntry}
use Rattle.codec_model.specs.declared.entry.{Opening.Opening, Entry.Entry}
use Rattle.codec_model.specs.declared.entry.Entry.TheVariants as entry
use Rattle.codec_model.specs.Control.{Control}
use Rattle.codec_model.specs.Replay.{State, sends}
use Rattle.codec_core.specs.declared.out.Out.{Out}
use Rattle.codec_core.specs.declared.out.Out.TheVariants as out
use Rattle.codec_core.specs.Job.{JobValue, DoneValue, IsJobOf, IsEndOf, missing_id, named_box}
use Rattle.codec_core.specs.Codec.{Codec, state_at}
use Rattle.codec_media.specs.Holding.{Holding, all_of}
use Rattle.codec_accounts.specs.Boxes.{Holds, newer}
use Rattle.codec_accounts.specs.Registry.{Box}
use Rattle.seat_lock.specs.Logs.{AllBy}
use Rattle.seat_lock.specs.Passages.{Passes}
use Rattle.codec_logs.specs.declared.event.Event.{Event}
use Rattle.codec_logs.specs.declared.event.Acquires.{Acquires}
use Rattle.codec_logs.specs.Logs.{entry_of, history_of, acquires_of, box_of, track, IsLog, AreAsked, AreTries, BoxIs, HomeIs}
use Rattle.shared_pool.specs.Refs.{AreOf}
use Rattle.shared_slots.specs.Boxes.{IfOut}
use Rattle.shared_codec.specs.Told.{asked_in}

-- a shared codec: its lock, its number and opening, for how many calls it was opened, and the locks of its pool and of its registry
pub record Shared : Type 0 where
  pub id : TableId
  pub codec : ℕ
  pub opening : Opening
  pub calls : ℕ
  pub pool : TableId
  pub slots : TableId

-- a codec has no claims
abbrev pub no_mint : Event → Bool
no_mint e = false

abbrev pub no_spend : List Event → Event → Option ℕ
no_spend es e = None

-- a call that sends no message takes one of the places that its codec was opened with
abbrev pub takes_place : Entry → Bool
takes_place (entry.Call who x) = not (sends x)
takes_place _ = false

-- how many of them were taken
abbrev pub places_in : List Entry → ℕ
places_in history = count_by takes_place history

-- What went out with the item at work: its start's place where it waits for a box, else which box it has by the accounts.
abbrev pub WentIs : ℕ → Holds Box → Out → Type 0
WentIs k x (out.With box) = (x.waits ≡ false) × BoxIs k x.since x.box box × (named_box box ≡ box)
WentIs k x (out.Asked place) = x.since ≡ Some place

-- What the locked value stands for. The log is legal, with each end of the seat of its start and with the acquires of that
-- start; the codec's history is the log's; its box, and what went out with the item at work, is that of the accounts, and
-- out of the shared registry; and all references that it holds are of the shared pool. Of the places that it was opened with
-- as many are left as were not taken.
pub record StandsFor (codec : ℕ) (o : Opening) (calls : ℕ) (pool slots : TableId) (h : Holding) (log : Log Event) : Type 0 where
  pub legal : IsLog codec o log
  pub opening : h.codec.opening ≡ o
  pub history : h.codec.history ≡ history_of log
  pub state : state_at h.codec ≡ (track o log).state
  pub box : HomeIs codec (track o log).holds.runs (track o log).holds.since (track o log).holds.box h.codec.slot
  pub out : IfOut slots h.codec.slot
  pub held : AreOf pool (all_of h)
  pub went : (track o log).holds.runs ≡ true → WentIs codec (track o log).holds h.codec.out
  pub room : calls ≤ h.codec.spare + places_in (history_of log)

-- the codec after this log, as far as its history says it
abbrev pub codec_of : Shared → Log Event → Codec
codec_of s log = record { opening = s.opening; history = history_of log; spare = 0; slot = None; out = out.With None }

abbrev pub state_in : Shared → Log Event → State
state_in s log = (track s.opening log).state

-- the entry of a codec that was made last
abbrev pub IsLast : List Entry → Entry → Type 0
IsLast history e = (before : List Entry) × (history ≡ before ++ e ∷ [])

-- the passage is of the last entry of this history, with these acquires, or a look
abbrev pub PassageIs : Bool → List Entry → Acquires → Passage Event → Type 0
PassageIs true history acquires p = (e : Event) × (p ≡ Made e) × IsLast history (entry_of e) × (e.acquires ≡ acquires)
PassageIs false history acquires p = p ≡ Look

-- The condition of an end: by this log the item at work is of the seat with number n, and this is its end, with the box
-- that its start had or that went out by these acquires of it.
pub record MayEndAt (k : ℕ) (o : Opening) (slots : TableId) (n : ℕ) (log : Log Event) (d : DoneValue) (acquires : List SlotEntry) : Type 0 where
  pub runner : (track o log).runner ≡ Some n
  pub runs : (track o log).holds.runs ≡ true
  pub end : IsEndOf (track o log).state d
  pub may : is_some (box_of acquires) ≡ true → ((track o log).holds.waits ≡ true) × ((track o log).holds.box ≡ None)
  pub box : BoxIs k (track o log).holds.since (newer (box_of acquires) (track o log).holds.box) d.coder
  pub asked : AreAsked k acquires (track o log).holds
  pub tries : AreTries acquires
  pub out : IfOut slots d.coder

-- The item at work is of the seat with number n, and this is its job. Where the job lacks no box, its box is that of the
-- accounts; else its start asks for one, of the coder that the job lacks.
pub record HasJobAt (k : ℕ) (o : Opening) (slots : TableId) (n : ℕ) (log : Log Event) (job : JobValue) : Type 0 where
  pub runner : (track o log).runner ≡ Some n
  pub runs : (track o log).holds.runs ≡ true
  pub job_is : IsJobOf (track o log).state job
  pub has : missing_id job ≡ None → BoxIs k (track o log).holds.since (track o log).holds.box job.coder
  pub asked : asked_in (track o log) ≡ missing_id job
  pub asks : is_some (missing_id job) ≡ true → ((track o log).holds.waits ≡ true) × ((track o log).holds.since ≡ Some job.place) × ((track o log).holds.box ≡ None)
  pub out : IfOut slots job.coder

-- the same by the log that a seat has seen
abbrev pub MayEnd : Shared → View Event → DoneValue → List SlotEntry → Type 0
MayEnd s v d acquires = MayEndAt s.codec s.opening s.slots v.number v.log d acquires

abbrev pub HasJob : Shared → View Event → JobValue → Type 0
HasJob s v job = HasJobAt s.codec s.opening s.slots v.number v.log job

module _ {S : Type 0} where
  -- The seat made this entry, with these acquires, at the end of one legal log that begins with what the seat had seen and
  -- goes on with passages of others.
  pub record MadeIn (s : Shared) (e : Entry) (acquires : List SlotEntry) (a b : Seat (Option S) (View Event)) : Type 0 where
    pub event : Event
    pub entry_is : entry_of event ≡ e
    pub acquires_are : acquires_of event.acquires ≡ acquires
    pub passes : Passes no_mint no_spend (Made event) a b
    pub before : IsLog s.codec s.opening passes.log
    pub legal : IsLog s.codec s.opening b.me.0.log

  -- the seat looked at the codec after a legal log, and nothing changed
  pub record LookedIn (s : Shared) (a b : Seat (Option S) (View Event)) : Type 0 where
    pub passes : Passes no_mint no_spend Look a b
    pub legal : IsLog s.codec s.opening passes.log

  -- the seat looked after a legal log, and this is so of the codec's state there
  pub record NoneIn (s : Shared) (P : Control → Type 0) (a b : Seat (Option S) (View Event)) : Type 0 where
    pub looked : LookedIn s a b
    pub none : P (state_in s looked.passes.log).control

-- a codec whose lock is gone stands for all that the seat has seen, each passage of which is of the seat
pub record FinishedAs (s : Shared) (h : Holding) (v : View Event) : Type 0 where
  pub stands : StandsFor s.codec s.opening s.calls s.pool s.slots h v.log
  pub all : AllBy v.numbers v.log
