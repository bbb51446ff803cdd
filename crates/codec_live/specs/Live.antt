-- A codec that keeps no history: what is kept of it, and for which histories it stands.
use Rattle.std.specs.Prelude.{ℕ, ◌≡◌, ◌==◌, ◌≤◌, ◌<◌, ◌&&◌, Bool, false, List, [], ◌∷◌, ◌++◌, length, Option, Some, None, unwrap_or, if◌then◌else◌}
use Rattle.coder_api.specs.Lent.{Lent}
use Rattle.codec_model.specs.declared.entry.Entry.{Entry}
use Rattle.codec_model.specs.declared.entry.Answer.{Answer}
use Rattle.codec_model.specs.declared.entry.CodecState.TheVariants.{Unconfigured, Configured, Closed}
use Rattle.codec_model.specs.declared.entry.Item.{Item}
use Rattle.codec_model.specs.declared.entry.Work.{Work}
use Rattle.codec_model.specs.declared.entry.Running.{Running}
use Rattle.codec_model.specs.declared.entry.Shown.{Shown}
use Rattle.codec_model.specs.Control.{Control, turn_closes}
use Rattle.codec_model.specs.Replay.{State, opening_state, replay, nothing_given}
use Rattle.codec_model.specs.Shown.{each_shown}
use Rattle.codec_live.specs.Job.{CoderAt, IsReadyBox, stopped_box}

-- what is kept of a codec: its control state, and the box that it holds while no item is at work
pub record Live : Type 0 where
  pub control : Control
  pub slot : Option Lent

-- where the box is at home
pub record CoderHome (slot : Option Lent) (s : State) : Type 0 where
  pub idle : s.control.running ≡ None → s.control.halted ≡ false → CoderAt slot s.given
  pub out : (r : Running) → s.control.running ≡ Some r → slot ≡ None
  pub busy : (r : Running) → s.control.running ≡ Some r → r.epoch ≡ s.control.epoch → s.running_given ≡ s.given
  pub stale : (r : Running) → s.control.running ≡ Some r → r.epoch < s.control.epoch → s.given ≡ nothing_given
  pub older : (r : Running) → s.control.running ≡ Some r → r.epoch ≤ s.control.epoch

-- The codec stands after this history: the history is legal, its state is the one that is kept, and the box was given what
-- was given in this epoch.
pub record StandsAfter (history : List Entry) (l : Live) : Type 0 where
  pub state : State
  pub replays : replay l.control.opening history ≡ Some state
  pub is_control : state.control ≡ l.control
  pub is_place : l.control.place ≡ length history
  pub home : CoderHome l.slot state
  pub some_saturate : 1 ≤ l.control.opening.saturation

-- the state after a history of this codec
abbrev pub state_after : Live → List Entry → State
state_after l history = unwrap_or (replay l.control.opening history) (opening_state l.control.opening)

-- After this history the entry is legal. The codec then stands after the history with this entry, which shows this.
pub record GoesFrom (history : List Entry) (old new : Live) (e : Entry) (x : Shown) : Type 0 where
  pub stands : StandsAfter (history ++ e ∷ []) new
  pub shows : each_shown old.control.opening (history ++ e ∷ []) ≡ each_shown old.control.opening history ++ x ∷ []

-- The same for each history after which the codec may stand.
abbrev pub GoesOn : Live → Live → Entry → Shown → Type 0
GoesOn old new e x = (history : List Entry) → StandsAfter history old → GoesFrom history old new e x

abbrev pub nothing_shown : Shown
nothing_shown = record { turn = None; events = [] }

-- a box at home may be asked for more, unless the codec is halted
pub record IsReadyHome (slot : Option Lent) (k : Control) : Type 0 where
  pub ready : k.halted ≡ false → IsReadyBox slot

-- the item with this epoch and number is at work
abbrev pub is_at_work : Option Running → ℕ → ℕ → Bool
is_at_work None epoch number = false
is_at_work (Some r) epoch number = (r.epoch == epoch) && (r.number == number)

-- a box that stays where it is, or goes
abbrev pub kept_box : Bool → Option Lent → Option Lent
kept_box stays coder = if stays then coder else None

-- a box that does not stay is handed back, stopped
abbrev pub handed_back : Bool → Option Lent → Option Lent
handed_back stays coder = if stays then None else stopped_box coder

-- the front task closes the codec
abbrev pub closes_now : Control → Bool
closes_now s = unwrap_or (turn_closes s.tasks) false

-- an item's number and its work
abbrev pub item_parts : Item → ℕ × Work
item_parts i = (i.number, i.work)

-- the moment of the last item that ended, of a configured codec
abbrev pub progress_of : Control → Option ℕ
progress_of s = elim (s.phase) [ Unconfigured ↦ None | Configured ↦ s.progress | Closed ↦ None ]

-- what a step leaves: what it answers, and the box that it lets go
pub record StepValue : Type 0 where
  pub answer : Answer
  pub coder : Option Lent

-- the box stays where it is, or goes with the step
pub record BoxGoes (stays : Bool) (old new : Live) (r : StepValue) : Type 0 where
  pub slot : new.slot ≡ kept_box stays old.slot
  pub coder : r.coder ≡ handed_back stays old.slot
