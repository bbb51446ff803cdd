-- A codec as its history.
use Rattle.std.specs.Prelude.{ℕ, ◌≡◌, ◌≤◌, ◌<◌, ◌+◌, ◌^◌, Bool, true, false, not, List, [], ◌∷◌, ◌++◌, length, drop, Option, Some, None, is_some, unwrap_or, if◌then◌else◌}
use Rattle.wc_base.specs.declared.error.DomError.{DomError}
use Rattle.wc_base.specs.declared.who.By.{By}
use Rattle.wc_base.specs.declared.who.By.TheVariants as by
use Rattle.wc_base.specs.declared.who.Who.{Who}
use Rattle.codec_definitions.specs.declared.unit.Unit as media
use Rattle.coder_api.specs.Lent.{Lent}
use Rattle.codec_model.specs.declared.entry.Opening.{Opening}
use Rattle.codec_model.specs.declared.entry.CodecState.{CodecState}
use Rattle.codec_model.specs.declared.entry.CodecState.TheVariants.{Unconfigured, Configured, Closed}
use Rattle.codec_model.specs.declared.entry.Call.{Call}
use Rattle.codec_model.specs.declared.entry.Entry.{Entry}
use Rattle.codec_model.specs.declared.entry.Work.{Work}
use Rattle.codec_model.specs.declared.entry.Item.{Item}
use Rattle.codec_model.specs.declared.entry.Running.{Running}
use Rattle.codec_model.specs.declared.entry.Shown.{Shown}
use Rattle.codec_model.specs.Control.{Control, turn_closes, left}
use Rattle.codec_model.specs.Replay.{State, opening_state, replay, nothing_given, step, call_error, sends}
use Rattle.codec_model.specs.Held.{is_removal}
use Rattle.codec_model.specs.declared.entry.Entry.TheVariants as entry
use Rattle.codec_model.specs.Shown.{each_shown, exception_of, promise_of, units_shown}
use Rattle.codec_core.specs.declared.out.Out.{Out}
use Rattle.codec_core.specs.declared.out.Out.TheVariants as out
use Rattle.codec_core.specs.Job.{CoderAt, stopped_box, named_box}
use Rattle.codec_accounts.specs.Asked.{asked_at}
use Rattle.codec_core.specs.Trace.{TraceValue}

pub record Codec : Type 0 where
  pub opening : Opening
  pub history : List Entry
  -- so many more entries of callers have a place
  pub spare : ℕ
  -- the box that the codec holds
  pub slot : Option Lent
  -- what went out with the item at work
  pub out : Out

-- the state after the history
abbrev pub state_at : Codec → State
state_at c = unwrap_or (replay c.opening c.history) (opening_state c.opening)

-- The entry was made: it stands last in the history, it is legal there, and the state is its step.
pub record Makes (old new : Codec) (e : Entry) : Type 0 where
  pub same_opening : new.opening ≡ old.opening
  pub longer : new.history ≡ old.history ++ e ∷ []
  pub steps : step e (state_at old) ≡ Some (state_at new)
  pub legal : replay new.opening new.history ≡ Some (state_at new)

-- the running item and what it was given stay, so its job stays the job of the running item
pub record KeepsRunning (old new : State) : Type 0 where
  pub same_running : new.control.running ≡ old.control.running
  pub same_given : new.running_given ≡ old.running_given

-- where the box is at home
pub record CoderHome (slot : Option Lent) (s : State) : Type 0 where
  pub idle : s.control.running ≡ None → s.control.halted ≡ false → CoderAt slot s.given
  pub out : (r : Running) → s.control.running ≡ Some r → slot ≡ None
  pub busy : (r : Running) → s.control.running ≡ Some r → r.epoch ≡ s.control.epoch → s.running_given ≡ s.given
  pub stale : (r : Running) → s.control.running ≡ Some r → r.epoch < s.control.epoch → s.given ≡ nothing_given
  pub older : (r : Running) → s.control.running ≡ Some r → r.epoch ≤ s.control.epoch

-- the cause is the codec's entry at this place
abbrev pub IsBy : By → Option ℕ → Type 0
IsBy (by.Codec codec place) at = at ≡ Some place
IsBy (by.Caller who) at = ⊥

-- the box, if there is one, was acquired by the codec's entry at this place
abbrev pub IsAskedAt : Option ℕ → Option Lent → Type 0
IsAskedAt at None = Unit {0}
IsAskedAt at (Some lent) = IsBy lent.by at

-- the history's state is the one that is kept
pub record IsKept (history : List Entry) (slot : Option Lent) (k : Control) : Type 0 where
  pub state : State
  pub replays : replay k.opening history ≡ Some state
  pub is_control : state.control ≡ k
  pub is_place : k.place ≡ length history
  pub home : CoderHome slot state
  pub some_saturate : 1 ≤ k.opening.saturation

-- a place is kept for the reclaim of a codec that is not closed
abbrev pub reclaims : CodecState → ℕ
reclaims Unconfigured = 1
reclaims Configured = 1
reclaims Closed = 0

-- the outputs that wait are those that were shown but for those that were taken
pub record OutputsWait (shown : List Shown) (waiting : List media.Unit) (k : Control) : Type 0 where
  pub counted : k.shown ≡ length (units_shown shown)
  pub took : k.taken ≤ k.shown
  pub others : waiting ≡ drop k.taken (units_shown shown)

-- what went out with an item at work: which box its codec had, or by its start at this place a box is asked for
abbrev pub went_out : Bool → ℕ → Option Lent → Out
went_out asks place coder = if asks then out.Asked place else out.With (named_box coder)

-- what went out was asked for by the entry at this place
abbrev pub IsOutOf : Out → Option ℕ → Type 0
IsOutOf (out.With box) at = IsAskedAt at box
IsOutOf (out.Asked place) at = at ≡ Some place

-- the box that comes back, if one does: the one that went out, or one that was asked for by the item's start
abbrev pub IsBack : Out → Option Lent → Type 0
IsBack (out.With box) coder = named_box coder ≡ box
IsBack (out.Asked place) coder = IsAskedAt (Some place) coder

-- the entries are the history of the machine's state, each with what it showed, and there is a place for each entry that
-- is left and for those that are kept
pub record IsCore (t : TraceValue) (slot : Option Lent) (out : Out) (k : Control) (spare : ℕ) : Type 0 where
  pub kept : IsKept t.entries slot k
  pub shows : t.shown ≡ each_shown k.opening t.entries
  pub outputs : OutputsWait t.shown t.waiting k
  -- the box at home is the one that the codec asked for last
  pub own : IsAskedAt (asked_at k.opening t.entries) slot
  -- and so is what went out
  pub lent : is_some k.running ≡ true → IsOutOf out (asked_at k.opening t.entries)
  pub places : left k + spare + reclaims k.phase ≤ t.free
  -- what memory can hold
  pub fits : length t.entries + t.free < 2 ^ 63

-- a box that stays where it is, or goes
abbrev pub kept_box : Bool → Option Lent → Option Lent
kept_box stays coder = if stays then coder else None

-- a box that does not stay is handed back, stopped
abbrev pub handed_back : Bool → Option Lent → Option Lent
handed_back stays coder = if stays then None else stopped_box coder

-- a removal hands back the box that is at home
pub record RemovedValue : Type 0 where
  pub place : ℕ
  pub coder : Option Lent

-- the end of an item hands back its box where the codec began a new epoch since
pub record BackValue : Type 0 where
  pub place : ℕ
  pub coder : Option Lent

-- a turn removes where its task closes the codec
pub record TurnedValue : Type 0 where
  pub place : ℕ
  pub removed : Option RemovedValue

abbrev pub removed_if : Bool → ℕ → Option Lent → Option RemovedValue
removed_if removes at coder = if removes then Some (record { place = at; coder = coder }) else None

-- the front task closes the codec
abbrev pub closes_now : Control → Bool
closes_now s = unwrap_or (turn_closes s.tasks) false

-- an item's number and its work
abbrev pub item_parts : Item → ℕ × Work
item_parts i = (i.number, i.work)

-- the moment of the last item that ended, of a configured codec
abbrev pub progress_of : Control → Option ℕ
progress_of s = elim (s.phase) [ Unconfigured ↦ None | Configured ↦ s.progress | Closed ↦ None ]

-- what a call leaves: its entry's place, its exception, its promise, and the box of a codec that it emptied
pub record ReplyValue : Type 0 where
  pub place : ℕ
  pub exception : Option DomError
  pub promise : Option ℕ
  pub coder : Option Lent

-- the box stays where this call removes nothing
abbrev pub box_stays : Who → Call → State → Bool
box_stays who x s = not (is_removal (entry.Call who x) s)

-- a call that sends no message takes one of the places that are kept
abbrev pub places_taken : Call → ℕ
places_taken x = if sends x then 0 else 1

-- the call's entry was made, and this is its reply
pub record Replied (old new : Codec) (who : Who) (x : Call) (r : ReplyValue) : Type 0 where
  pub made : Makes old new (entry.Call who x)
  pub is_place : r.place ≡ length old.history
  pub exception : exception_of x (call_error x (state_at old).control) ≡ r.exception
  pub promise : promise_of x r.place ≡ r.promise
  pub slot : new.slot ≡ kept_box (box_stays who x (state_at old)) old.slot
  pub coder : r.coder ≡ handed_back (box_stays who x (state_at old)) old.slot
  pub out : new.out ≡ old.out
  pub spare : new.spare + places_taken x ≡ old.spare
