-- The registry's history and the codecs' histories: which boxes went out and came back, and by which entries (our choice).
use Rattle.std.specs.Prelude.{ℕ, suc, ◌≡◌, ◌==◌, ◌&&◌, Bool, true, false, cond, List, [], ◌∷◌, ◌++◌, take, map, slice_get, Option, Some, None, option_map}
use Rattle.std.specs.List.{flat_map}
use Rattle.wc_base.specs.declared.who.By.{By}
use Rattle.wc_base.specs.declared.who.By.TheVariants as by
use Rattle.wc_config.specs.declared.codec.CoderId.{CoderId}
use Rattle.coder_api.specs.declared.slot.SlotEntry.{SlotEntry}
use Rattle.coder_api.specs.declared.slot.SlotOp.{SlotOp}
use Rattle.coder_api.specs.declared.slot.SlotOp.TheVariants as slot
use Rattle.slot_registry.specs.Boxes.{holder_of}
use Rattle.slot_registry.specs.Slots.{is_legal_slots}
use Rattle.codec_model.specs.declared.entry.Opening.{Opening}
use Rattle.codec_model.specs.declared.entry.Outcome.{Outcome}
use Rattle.codec_model.specs.declared.entry.Outcome.TheVariants as outcome
use Rattle.codec_model.specs.declared.entry.Entry.{Entry}
use Rattle.codec_model.specs.declared.entry.Entry.TheVariants as entry
use Rattle.codec_accounts.specs.Bags.{SameBag}
use Rattle.codec_accounts.specs.Owed.{at, owed, owed_from}
use Rattle.codec_accounts.specs.Boxes.{Act, acts_of, asks_in, lets_in, start_in, Event, Holds, holds_nothing, holds_after, gets, lets_go, acts_in, Legal}

-- a box that is out, as the codec that holds it knows it
pub record BoxOut : Type 0 where
  pub id : CoderId
  pub number : ℕ
  pub by : By

-- a box that came back: the box as it was out, and the entry by which it came
pub record Return : Type 0 where
  pub box : BoxOut
  pub giver : By

-- ---- acquires

-- the same cause
abbrev pub is_cause : By → By → Bool
is_cause (by.Caller a) (by.Caller b) = (a.caller == b.caller) && (a.step == b.step)
is_cause (by.Codec k p) (by.Codec j q) = (k == j) && (p == q)
is_cause _ _ = false

-- the coder of which a box goes out, or is refused
abbrev pub acquire_of : SlotOp → List CoderId
acquire_of (slot.Acquire id number) = id ∷ []
acquire_of (slot.Refused id out made) = id ∷ []
acquire_of (slot.Give id number) = []

-- the coders of which a cause acquired a box or was refused one, in order
abbrev pub acquires_by : By → List SlotEntry → List CoderId
acquires_by cause slots = flat_map (λ e. cond (is_cause cause e.by) (acquire_of e.op) []) slots

abbrev pub in_list : {X : Type 0} → Option X → List X
in_list None = []
in_list (Some x) = x ∷ []

-- the coder of which a cause asks for a box, if it asks for one; `acts` has each codec's history
abbrev pub asks_by : (ℕ → List Act) → By → List CoderId
asks_by acts (by.Caller who) = []
asks_by acts (by.Codec k p) = in_list (asks_in (acts k) p)

-- Each cause acquires, or is refused, what it asks for: one box where it asks for one, and none elsewhere.
abbrev pub AcquiresAreAsked : (ℕ → List Act) → List SlotEntry → Type 0
AcquiresAreAsked acts slots = (cause : By) → acquires_by cause slots ≡ asks_by acts cause

-- ---- returns

abbrev pub out_by : By → SlotOp → List BoxOut
out_by cause (slot.Acquire id number) = record { id = id; number = number; by = cause } ∷ []
out_by cause (slot.Refused id out made) = []
out_by cause (slot.Give id number) = []

-- the boxes that went out
abbrev pub outs : List SlotEntry → List BoxOut
outs slots = flat_map (λ e. out_by e.by e.op) slots

abbrev pub return_from : By → CoderId → ℕ → Option By → List Return
return_from giver id number None = []
return_from giver id number (Some holder) = record { box = record { id = id; number = number; by = holder }; giver = giver } ∷ []

abbrev pub return_by : By → SlotOp → List SlotEntry → List Return
return_by cause (slot.Acquire id number) before = []
return_by cause (slot.Refused id out made) before = []
return_by cause (slot.Give id number) before = return_from cause id number (holder_of id number before)

abbrev pub with_slot : SlotEntry → List SlotEntry → List SlotEntry
with_slot e before = before ++ e ∷ []

-- the boxes that came back, each by the entry that gave it
abbrev pub returns : List SlotEntry → List Return
returns slots = owed with_slot (λ place e before. return_by e.by e.op before) 0 [] slots

-- the entry that lets a box go which was asked for by this cause, if one does
abbrev pub lets_by : (ℕ → List Act) → By → Option By
lets_by acts (by.Caller who) = None
lets_by acts (by.Codec k p) = option_map (λ q. by.Codec k q) (lets_in (acts k) p)

abbrev pub return_at : BoxOut → Option By → List Return
return_at b None = []
return_at b (Some giver) = record { box = b; giver = giver } ∷ []

-- the return that a box calls for: by the entry that lets it go, if one does
abbrev pub return_of : (ℕ → List Act) → BoxOut → List Return
return_of acts b = return_at b (lets_by acts b.by)

-- The boxes that came back are those that the codecs' entries let go, each once and by that entry, and no others.
abbrev pub BoxesAreBack : (ℕ → List Act) → List SlotEntry → Type 0
BoxesAreBack acts slots = SameBag (returns slots) (flat_map (return_of acts) (outs slots))

-- ---- refusals

-- the acquire at this place of the registry's history was refused, by this cause
pub record IsRefusedAt (slots : List SlotEntry) (n : ℕ) (cause : By) : Type 0 where
  pub id : CoderId
  pub out : ℕ
  pub made : ℕ
  pub stands : slice_get slots n ≡ Some (record { by = cause; op = slot.Refused id out made })

-- Where the acquire of a start was refused, the end of its item names that refusal, or says that memory was wanted; no other
-- end says that no box was free.
abbrev pub EndSays : List SlotEntry → By → Outcome → Type 0
EndSays slots cause (outcome.NoSlot n) = IsRefusedAt slots n cause
EndSays slots cause outcome.NoMemory = Unit {0}
EndSays slots cause outcome.Refused = (n : ℕ) → IsRefusedAt slots n cause → ⊥
EndSays slots cause (outcome.Ran units) = (n : ℕ) → IsRefusedAt slots n cause → ⊥

-- the item that the entry at this place ends started at another place
pub record EndsAsStarted (acts : List Act) (slots : List SlotEntry) (k q : ℕ) (o : Outcome) : Type 0 where
  pub place : ℕ
  pub started : start_in (take q acts) ≡ Some place
  pub says : EndSays slots (by.Codec k place) o

-- each end of an item says how its start's acquire went
abbrev pub EndsAreTrue : (ℕ → List Act) → List (List Entry) → List SlotEntry → Type 0
EndsAreTrue acts codecs slots = (k q epoch number moment : ℕ) (o : Outcome) → slice_get (at k codecs) q ≡ Some (entry.Done epoch number moment o) → EndsAsStarted (acts k) slots k q o

-- ---- all of it

-- what the entries of each codec are to its box
abbrev pub acts_at : (ℕ → Opening) → List (List Entry) → ℕ → List Act
acts_at opening codecs k = acts_of (opening k) (at k codecs)

-- The boxes of a registry's history are accounted for by the codecs' histories; `made` has the ids of the coders that were
-- handed in.
pub record BoxesAccounted (made : List CoderId) (opening : ℕ → Opening) (codecs : List (List Entry)) (slots : List SlotEntry) : Type 0 where
  -- the registry can have this history
  pub legal : is_legal_slots made slots ≡ true
  pub acquires : AcquiresAreAsked (acts_at opening codecs) slots
  pub back : BoxesAreBack (acts_at opening codecs) slots
  pub ends : EndsAreTrue (acts_at opening codecs) codecs slots

-- ---- by the state before each entry

-- a box: its number among those of its id
pub record Box : Type 0 where
  pub id : CoderId
  pub number : ℕ

abbrev pub box_out : ℕ → ℕ → Box → BoxOut
box_out k p b = record { id = b.id; number = b.number; by = by.Codec k p }

-- a box of the codec with this number, that was asked for at this place
abbrev pub out_at : ℕ → ℕ × Box → BoxOut
out_at k g = box_out k g.0 g.1

abbrev pub back_at : ℕ → ℕ × (ℕ × Box) → Return
back_at k g = record { box = out_at k g.1; giver = by.Codec k g.0 }

-- what an entry of the codec with this number calls for: that its box went out, and that the boxes which it lets go come
-- back
abbrev pub gets_due : ℕ → ℕ → Event Box → Holds Box → List BoxOut
gets_due k place e x = map (out_at k) (gets place e x)

abbrev pub lets_go_due : ℕ → ℕ → Event Box → Holds Box → List Return
lets_go_due k place e x = map (back_at k) (lets_go place e x)

abbrev pub all_out : List (List (Event Box)) → List BoxOut
all_out hs = owed_from holds_after gets_due (λ k. holds_nothing) 0 hs

abbrev pub all_back : List (List (Event Box)) → List Return
all_back hs = owed_from holds_after lets_go_due (λ k. holds_nothing) 0 hs

-- these are the codecs' histories, from the codec with this number on, and each is legal
abbrev pub AreOf : (ℕ → List Act) → ℕ → List (List (Event Box)) → Type 0
AreOf acts k [] = Unit {0}
AreOf acts k (h ∷ hs) = (acts k ≡ acts_in h) × Legal h × AreOf acts (suc k) hs
