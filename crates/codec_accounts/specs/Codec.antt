-- One codec of many with its box, and what each entry makes of them and of the registry (our choice).
use Rattle.std.specs.Prelude.{ℕ, ◌≡◌, ◌==◌, ◌||◌, not, Bool, true, false, cond, List, [], ◌∷◌, ◌++◌, length, Option, Some, None, is_some, unwrap_or, slice_get, slice_set, map}
use Rattle.wc_base.specs.declared.who.By.{By}
use Rattle.wc_base.specs.declared.who.By.TheVariants as by
use Rattle.wc_config.specs.declared.codec.CoderId.{CoderId}
use Rattle.coder_api.specs.declared.slot.SlotEntry.{SlotEntry}
use Rattle.coder_api.specs.declared.slot.SlotOp.TheVariants as slot
use Rattle.slot_registry.specs.Boxes.{holder_of, least_free}
use Rattle.slot_registry.specs.Slots.{SlotsValue, is_later, acquired}
use Rattle.codec_model.specs.declared.entry.Opening.{Opening}
use Rattle.codec_model.specs.declared.entry.Running.{Running}
use Rattle.codec_model.specs.declared.entry.Entry.{Entry}
use Rattle.codec_model.specs.Control.{Control, no_opening}
use Rattle.codec_model.specs.Replay.{State, opening_state, replay}
use Rattle.codec_accounts.specs.Boxes.{Act, Asks, Begins, Ends, Removes, Other, act_of}
use Rattle.codec_accounts.specs.Registry.{BoxOut}

-- what a codec has of the registry: the box that it holds, and the entry that refused its running item one
pub record Holding : Type 0 where
  pub box : Option BoxOut
  pub refusal : Option ℕ

abbrev pub nothing_held : Holding
nothing_held = record { box = None; refusal = None }

-- what is known of a codec: its opening, its history, and what it has of the registry
pub record CodecValue : Type 0 where
  pub opening : Opening
  pub history : List Entry
  pub holding : Holding

abbrev pub new_codec : Opening → CodecValue
new_codec o = record { opening = o; history = []; holding = nothing_held }

-- the state after a history
abbrev pub state_after : Opening → List Entry → State
state_after o h = unwrap_or (replay o h) (opening_state o)

abbrev pub state_of : CodecValue → State
state_of d = state_after d.opening d.history

-- the cause that the codec's next entry is
abbrev pub next_by : ℕ → CodecValue → By
next_by k d = by.Codec k (length d.history)

-- ---- what becomes of a codec's box by an entry

-- The codec keeps it; it goes back; or it goes back, and the free box of least number of an id is asked for.
pub data BoxStep : Type 0 where
  Keep : BoxStep
  Give : BoxStep
  Renew : CoderId → BoxStep

-- a new epoch began since the running item started
abbrev pub is_old : Option Running → ℕ → Bool
is_old None epoch = false
is_old (Some r) epoch = not (r.epoch == epoch)

-- A start of an item that lacks a box renews it. After the end of an item its codec keeps the box, unless a new epoch began
-- since, or it was refused one. A removal lets the box go, unless an item is at work with it.
abbrev pub box_step : Act → Control → Option ℕ → BoxStep
box_step (Asks id) c refusal = Renew id
box_step Begins c refusal = Keep
box_step Ends c refusal = cond (is_old c.running c.epoch || is_some refusal) Give Keep
box_step Removes c refusal = cond (is_some c.running) Keep Give
box_step Other c refusal = Keep

-- the give of the box that a codec holds, if it holds one
abbrev pub give_of : By → Option BoxOut → List SlotEntry
give_of cause None = []
give_of cause (Some b) = record { by = cause; op = slot.Give b.id b.number } ∷ []

-- the registry after the box went back that a codec holds
abbrev pub after_give : By → Option BoxOut → SlotsValue → SlotsValue
after_give cause box s = record s { history = s.history ++ give_of cause box }

-- what a codec has of the registry after an acquire: the box of this number, or the entry that refused one
abbrev pub holding_by : By → CoderId → ℕ → Option ℕ → Holding
holding_by cause id entry (Some number) = record { box = Some (record { id = id; number = number; by = cause }); refusal = None }
holding_by cause id entry None = record { box = None; refusal = Some entry }

-- the free box of least number of this id goes out, or is refused where none is free
abbrev pub after_ask : By → CoderId → SlotsValue → Holding
after_ask cause id s = holding_by cause id (length s.history) (least_free id s.made s.history)

-- the registry after such a step, by this cause, of the codec that holds this box
abbrev pub slots_after : By → BoxStep → Option BoxOut → SlotsValue → SlotsValue
slots_after cause Keep box s = s
slots_after cause Give box s = after_give cause box s
slots_after cause (Renew id) box s = acquired cause id (after_give cause box s)

-- what the codec has of the registry then
abbrev pub holding_after : By → BoxStep → Holding → SlotsValue → Holding
holding_after cause Keep h s = h
holding_after cause Give h s = nothing_held
holding_after cause (Renew id) h s = after_ask cause id (after_give cause h.box s)

-- what becomes of the codec's box by its next entry
abbrev pub step_by : Entry → CodecValue → BoxStep
step_by e d = let t = state_of d in box_step (act_of e t) t.control d.holding.refusal

-- the codec with this number after one entry more, with this registry
abbrev pub after_entry : ℕ → Entry → SlotsValue → CodecValue → CodecValue
after_entry k e s d = record {
  opening = d.opening;
  history = d.history ++ e ∷ [];
  holding = holding_after (next_by k d) (step_by e d) d.holding s;
}

-- the registry after that entry
abbrev pub slots_by : ℕ → Entry → SlotsValue → CodecValue → SlotsValue
slots_by k e s d = slots_after (next_by k d) (step_by e d) d.holding.box s

-- ---- all codecs

-- the codec with this number
abbrev pub codec_at : ℕ → List CodecValue → CodecValue
codec_at k ds = unwrap_or (slice_get ds k) (new_codec no_opening)

-- the histories of all codecs
abbrev pub histories : List CodecValue → List (List Entry)
histories ds = map (λ d. d.history) ds

-- the codecs after one entry more of the one with this number, with this registry
abbrev pub codecs_after : ℕ → Entry → SlotsValue → List CodecValue → List CodecValue
codecs_after k e s ds = slice_set ds k (after_entry k e s (codec_at k ds))

-- a box is out, and an entry of this cause may give it back; with no box nothing is asked
abbrev pub IsGivable : List SlotEntry → By → Option BoxOut → Type 0
IsGivable history cause None = Unit {0}
IsGivable history cause (Some b) = (holder_of b.id b.number history ≡ Some b.by) × (is_later b.by cause ≡ true)

-- each box that a codec holds is out, and the codec's next entry may give it back
abbrev pub AreGivable : List CodecValue → List SlotEntry → Type 0
AreGivable ds slots = (k : ℕ) → IsGivable slots (next_by k (codec_at k ds)) (codec_at k ds).holding.box
