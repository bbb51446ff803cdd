-- The registry's history of a run of threads: a start may try twice to get a box, or not at all (our choice).
use Rattle.std.specs.Prelude.{ℕ, ◌≡◌, true, cond, List, [], ◌∷◌, ◌++◌, length, take, slice_get, Option, Some, None}
use Rattle.std.specs.List.{flat_map}
use Rattle.wc_base.specs.declared.who.By.{By}
use Rattle.wc_base.specs.declared.who.By.TheVariants as by
use Rattle.wc_config.specs.declared.codec.CoderId.{CoderId}
use Rattle.coder_api.specs.declared.slot.SlotEntry.{SlotEntry}
use Rattle.coder_api.specs.declared.slot.SlotOp.{SlotOp}
use Rattle.coder_api.specs.declared.slot.SlotOp.TheVariants as slot
use Rattle.slot_registry.specs.Slots.{is_legal_slots}
use Rattle.codec_model.specs.declared.entry.Opening.{Opening}
use Rattle.codec_model.specs.declared.entry.Outcome.{Outcome}
use Rattle.codec_model.specs.declared.entry.Outcome.TheVariants as outcome
use Rattle.codec_model.specs.declared.entry.Entry.{Entry}
use Rattle.codec_model.specs.declared.entry.Entry.TheVariants as entry
use Rattle.codec_accounts.specs.Owed.{at}
use Rattle.codec_accounts.specs.Boxes.{Act, asks_in, start_in}
use Rattle.codec_accounts.specs.Registry.{is_cause, acquire_of, acts_at, BoxesAreBack}

-- an acquire, granted or refused
abbrev pub try_of : SlotOp → List SlotOp
try_of (slot.Acquire id number) = slot.Acquire id number ∷ []
try_of (slot.Refused id out made) = slot.Refused id out made ∷ []
try_of (slot.Give id number) = []

-- the acquires by a cause, in order
abbrev pub tries_by : By → List SlotEntry → List SlotOp
tries_by cause slots = flat_map (λ e. cond (is_cause cause e.by) (try_of e.op) []) slots

-- an acquire of a box of this coder was refused
abbrev pub IsRefusalOf : CoderId → SlotOp → Type 0
IsRefusalOf id (slot.Refused other out made) = other ≡ id
IsRefusalOf id _ = ⊥

-- What a start may try that lacks a box of this coder: one acquire, a second one where the first was refused, or none. Nothing
-- else tries.
abbrev pub MayTry : Option CoderId → List SlotOp → Type 0
MayTry None ops = ops ≡ []
MayTry (Some id) [] = Unit {0}
MayTry (Some id) (a ∷ []) = acquire_of a ≡ id ∷ []
MayTry (Some id) (a ∷ b ∷ []) = IsRefusalOf id a × (acquire_of b ≡ id ∷ [])
MayTry (Some id) (a ∷ b ∷ c ∷ rest) = ⊥

-- the last of these acquires was granted, with a box of this coder
pub record IsGranted (id : CoderId) (ops : List SlotOp) : Type 0 where
  pub before : List SlotOp
  pub number : ℕ
  pub is : ops ≡ before ++ slot.Acquire id number ∷ []

-- the last acquire by this cause is the entry with this number, and was refused a box of this coder
pub record IsLastRefused (slots : List SlotEntry) (n : ℕ) (cause : By) (id : CoderId) : Type 0 where
  pub out : ℕ
  pub made : ℕ
  pub before : List SlotEntry
  pub behind : List SlotEntry
  pub is : slots ≡ before ++ record { by = cause; op = slot.Refused id out made } ∷ behind
  pub place : n ≡ length before
  pub last : tries_by cause behind ≡ []

-- What the end of an item says of the acquires of its start, which asked for a box of a coder or for none: where the last was
-- refused, the number of that refusal, or that memory was wanted; with no box gotten one or the other; else neither.
abbrev pub EndSays : List SlotEntry → By → Option CoderId → Outcome → Type 0
EndSays slots cause None (outcome.NoSlot n) = ⊥
EndSays slots cause None o = Unit {0}
EndSays slots cause (Some id) (outcome.NoSlot n) = IsLastRefused slots n cause id
EndSays slots cause (Some id) outcome.NoMemory = Unit {0}
EndSays slots cause (Some id) outcome.Refused = IsGranted id (tries_by cause slots)
EndSays slots cause (Some id) (outcome.Ran units) = IsGranted id (tries_by cause slots)

-- the item that the entry at this place ends started at another place
pub record EndsAsTried (acts : List Act) (slots : List SlotEntry) (k q : ℕ) (o : Outcome) : Type 0 where
  pub place : ℕ
  pub started : start_in (take q acts) ≡ Some place
  pub says : EndSays slots (by.Codec k place) (asks_in acts place) o

-- the coder of which a cause asks for a box, if it asks for one
abbrev pub asked_by : (ℕ → List Act) → By → Option CoderId
asked_by acts (by.Caller who) = None
asked_by acts (by.Codec k p) = asks_in (acts k) p

-- The boxes of a registry's history are accounted for by the codecs' histories; `made` has the ids of the coders that were
-- handed in.
pub record BoxesAreTried (made : List CoderId) (opening : ℕ → Opening) (codecs : List (List Entry)) (slots : List SlotEntry) : Type 0 where
  -- the registry can have this history
  pub legal : is_legal_slots made slots ≡ true
  -- each cause acquires what it may try
  pub tries : (cause : By) → MayTry (asked_by (acts_at opening codecs) cause) (tries_by cause slots)
  -- the boxes that came back are those that the codecs' entries let go, each once and by that entry
  pub back : BoxesAreBack (acts_at opening codecs) slots
  -- each end of an item says how its start's acquires went
  pub ends : (k q epoch number moment : ℕ) (o : Outcome) → slice_get (at k codecs) q ≡ Some (entry.Done epoch number moment o) → EndsAsTried (acts_at opening codecs k) slots k q o
