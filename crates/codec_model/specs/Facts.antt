-- What holds of every state that a legal history reaches, so that no step is ever stuck (our choice; W3C WebCodecs says
-- it by its algorithms alone).
use Rattle.std.specs.Prelude.{ℕ, ◌≡◌, ◌≤◌, ◌<◌, ◌+◌, ◌==◌, ◌&&◌, Bool, true, false, List, [], ◌∷◌, count_by, Option, Some, None, IfSome, if◌then◌else◌}
use Rattle.codec_model.specs.declared.entry.Opening.{Opening}
use Rattle.codec_model.specs.declared.entry.Entry.{Entry}
use Rattle.codec_model.specs.declared.entry.Entry.TheVariants as entry
use Rattle.codec_model.specs.declared.entry.Work.{Work}
use Rattle.codec_model.specs.declared.entry.Work.TheVariants as work
use Rattle.codec_model.specs.declared.entry.WorkKind.TheVariants as kind
use Rattle.codec_model.specs.declared.entry.Item.{Item}
use Rattle.codec_model.specs.declared.entry.Running.{Running}
use Rattle.codec_model.specs.declared.entry.Task.{Task}
use Rattle.codec_model.specs.declared.entry.Task.TheVariants as task
use Rattle.codec_model.specs.Control.{Control, is_coded, is_close, is_dequeue, is_desaturate, coded_out, takes_front, left}
use Rattle.codec_model.specs.Replay.{State, step, replay}

abbrev pub bit : Bool → ℕ
bit b = if b then 1 else 0

abbrev pub is_unblock : Task → Bool
is_unblock task.Unblock = true
is_unblock _ = false

abbrev pub is_process : Task → Bool
is_process task.Process = true
is_process _ = false

-- the task resolves this promise
abbrev pub resolves : ℕ → Task → Bool
resolves p (task.Flushed promise units) = promise == p
resolves p _ = false

abbrev pub is_configure : Work → Bool
is_configure (work.Configure config) = true
is_configure (work.Coded input) = false
is_configure work.Flush = false

-- a flush whose promise is this one
abbrev pub flushes : ℕ → ℕ → Work → Bool
flushes p place (work.Configure config) = false
flushes p place (work.Coded input) = false
flushes p place work.Flush = place == p

-- a configure item of this epoch that is at work
abbrev pub configures_now : ℕ → Option Running → ℕ
configures_now epoch None = 0
configures_now epoch (Some r) = elim (r.kind) [ kind.Configure ↦ bit (r.epoch == epoch) | kind.Coded ↦ 0 | kind.Flush ↦ 0 ]

-- a flush item of this epoch and promise that is at work
abbrev pub flushes_now : ℕ → ℕ → Option Running → ℕ
flushes_now p epoch None = 0
flushes_now p epoch (Some r) = elim (r.kind) [ kind.Configure ↦ 0 | kind.Coded ↦ 0 | kind.Flush ↦ bit ((r.epoch == epoch) && (r.place == p)) ]

-- the configure items of this epoch that are queued or running
abbrev pub configures_out : Control → ℕ
configures_out c = count_by (λ i. is_configure i.work) c.work + configures_now c.epoch c.running

-- what of a flush is under way: its message, its item of this epoch, or its task
abbrev pub flush_parts : ℕ → Control → ℕ
flush_parts p c =
    count_by (λ m. flushes p m.place m.work) c.messages + count_by (λ i. flushes p i.place i.work) c.work
    + flushes_now p c.epoch c.running + count_by (resolves p) c.tasks

-- the size counts the coded messages, and a dequeue event is scheduled exactly while one is queued
pub record CountsMessages (c : Control) : Type 0 where
  pub size : c.size ≡ count_by (λ m. is_coded m.work) c.messages
  pub scheduled : count_by is_dequeue c.tasks ≡ bit c.scheduled

-- a codec is halted exactly while one close is queued, and then nothing is at work
pub record HaltsForClose (c : Control) : Type 0 where
  pub closes : count_by is_close c.tasks ≡ bit c.halted
  pub idle : c.halted ≡ true → c.running ≡ None

-- the items have the numbers from the first one to the next item's
abbrev pub IsNumbered : ℕ → List Item → ℕ → Type 0
IsNumbered first [] next = first ≡ next
IsNumbered first (i ∷ is) next = (i.number ≡ first) × IsNumbered (first + 1) is next

-- the item at work is of this epoch and before the queued ones, or of an older epoch
pub record IsBefore (epoch first : ℕ) (r : Running) : Type 0 where
  pub epochs : r.epoch ≤ epoch
  pub numbers : r.epoch ≡ epoch → r.number < first

-- queued items are of this epoch, with rising numbers
pub record NumbersItems (c : Control) : Type 0 where
  pub first : ℕ
  pub queued : IsNumbered first c.work c.next_item
  pub running : IfSome c.running (IsBefore c.epoch first)

-- a blocked codec has a configure item of this epoch under way, or an Unblock queued, or is halted
abbrev pub BlocksForConfigure : Control → Type 0
BlocksForConfigure c = c.blocked ≡ true → 1 ≤ configures_out c + count_by is_unblock c.tasks + bit c.halted

-- a saturated codec has a coded item of this epoch under way, or a Desaturate queued, or is halted; a Desaturate is
-- queued at most once, and only while the codec is saturated
pub record SaturatesForCoded (c : Control) : Type 0 where
  pub saturated : c.saturated ≡ true → 1 ≤ coded_out c + count_by is_desaturate c.tasks + bit c.halted
  pub desaturates : count_by is_desaturate c.tasks ≤ bit c.saturated

-- no more coded items of this epoch are under way than saturate the codec, and fewer where it is not saturated or is
-- to be desaturated
pub record KeepsSaturation (c : Control) : Type 0 where
  pub most : coded_out c ≤ c.opening.saturation
  pub open_for_more : c.saturated ≡ false → coded_out c < c.opening.saturation
  pub to_be_open : 1 ≤ count_by is_desaturate c.tasks → coded_out c < c.opening.saturation

-- a message that could be processed now waits for a queued Process, or the codec is halted
abbrev pub ProcessesSoon : Control → Type 0
ProcessesSoon c = takes_front c.messages c ≡ true → 1 ≤ count_by is_process c.tasks + bit c.halted

-- each pending promise has one part of its flush under way, or the codec is halted
abbrev pub OwesPromises : Control → Type 0
OwesPromises c = (p : ℕ) → 1 ≤ count_by (λ q. q == p) c.pending → c.halted ≡ false → flush_parts p c ≡ 1

-- pending promises, and those that tasks resolve, are named by earlier entries
pub record NamesEarlier (c : Control) : Type 0 where
  pub pending : (p : ℕ) → c.place ≤ p → count_by (λ q. q == p) c.pending ≡ 0
  pub resolving : (p : ℕ) → c.place ≤ p → count_by (resolves p) c.tasks ≡ 0

-- all of these facts
pub record IsNeverStuck (c : Control) : Type 0 where
  pub counts : CountsMessages c
  pub halts : HaltsForClose c
  pub numbers : NumbersItems c
  pub blocks : BlocksForConfigure c
  pub saturates : SaturatesForCoded c
  pub saturation : KeepsSaturation c
  pub processes : ProcessesSoon c
  pub promises : OwesPromises c
  pub names : NamesEarlier c

-- nothing is left to start, to end or to run
pub record IsQuiet (c : Control) : Type 0 where
  pub no_work : c.work ≡ []
  pub idle : c.running ≡ None
  pub no_tasks : c.tasks ≡ []

-- no message waits, and no promise is pending
pub record OwesNothing (c : Control) : Type 0 where
  pub no_messages : c.messages ≡ []
  pub no_size : c.size ≡ 0
  pub no_promises : c.pending ≡ []

-- a codec with nothing left to do has done all that it was asked for
abbrev pub EndsQuiet : Control → Type 0
EndsQuiet c = IsQuiet c → OwesNothing c

-- it holds after every legal history
abbrev pub Always : (Control → Type 0) → Type 0
Always P = (o : Opening) (history : List Entry) (s : State) → 1 ≤ o.saturation → replay o history ≡ Some s → P s.control

-- a start, an end of an item or a turn
abbrev pub is_step : Entry → Bool
is_step (entry.Start epoch item) = true
is_step (entry.Done epoch item moment outcome) = true
is_step entry.Turn = true
is_step _ = false

-- each start, end and turn after a legal history leaves fewer of them
abbrev pub LeavesFewer : Type 0
LeavesFewer = (o : Opening) (history : List Entry) (s : State) (e : Entry) (t : State) → 1 ≤ o.saturation → replay o history ≡ Some s → is_step e ≡ true → step e s ≡ Some t → left t.control + 1 ≤ left s.control
