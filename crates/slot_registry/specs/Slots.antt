-- What a registry does, and which histories are legal (our choice).
use Rattle.std.specs.Prelude.{◌≡◌, ℕ, Bool, true, false, List, [], ◌∷◌, ◌++◌, length, Option, Some, None, ◌==◌, ◌&&◌, nat_lt}
use Rattle.wc_base.specs.declared.who.By.{By}
use Rattle.wc_base.specs.declared.who.By.TheVariants as by
use Rattle.wc_config.specs.declared.codec.CoderId.{CoderId}
use Rattle.coder_api.specs.Lent.{Lent}
use Rattle.coder_api.specs.declared.slot.SlotEntry.{SlotEntry}
use Rattle.coder_api.specs.declared.slot.SlotOp.{SlotOp}
use Rattle.coder_api.specs.declared.slot.SlotOp.TheVariants as slot
use Rattle.slot_registry.specs.declared.slots.AcquireFault.{AcquireFault}
use Rattle.slot_registry.specs.declared.slots.AcquireFault.TheVariants as fault
use Rattle.slot_registry.specs.Boxes.{is_box, is_out, holder_of, made_of, out_of, least_free}

-- a registry as contracts see it: the id of each coder that was handed in, in order, and its history
pub record SlotsValue : Type 0 where
  pub made : List CoderId
  pub history : List SlotEntry

-- a registry of coders of these ids, with nothing done yet
abbrev pub opened : List CoderId → SlotsValue
opened ids = record { made = ids; history = [] }

-- the registry with one more entry
abbrev pub recorded : SlotEntry → SlotsValue → SlotsValue
recorded entry s = record s { history = s.history ++ entry ∷ [] }

-- what an acquire does: the free box of least number goes out; it is refused where none is free
abbrev pub acquire_op : CoderId → ℕ → ℕ → Option ℕ → SlotOp
acquire_op id out all (Some number) = slot.Acquire id number
acquire_op id out all None = slot.Refused id out all

-- the entry of an acquire
abbrev pub acquire_entry : By → CoderId → SlotsValue → SlotEntry
acquire_entry cause id s = record { by = cause; op = acquire_op id (out_of id s.made s.history) (made_of id s.made) (least_free id s.made s.history) }

-- the registry after an acquire
abbrev pub acquired : By → CoderId → SlotsValue → SlotsValue
acquired cause id s = recorded (acquire_entry cause id s) s

-- the registry after a give of the box of this id and number
abbrev pub given_back : By → CoderId → ℕ → SlotsValue → SlotsValue
given_back cause id number s = recorded (record { by = cause; op = slot.Give id number }) s

-- the second cause is an entry of the first one's codec, at a greater place
abbrev pub is_later : By → By → Bool
is_later (by.Codec codec place) (by.Codec other later) = (codec == other) && nat_lt place later
is_later _ _ = false

-- the box was acquired by an entry of the cause's codec, at a smaller place; a box that is not out has no holder
abbrev pub may_give : Option By → By → Bool
may_give None cause = false
may_give (Some holder) cause = is_later holder cause

-- the number is the one that is free
abbrev pub is_number : Option ℕ → ℕ → Bool
is_number None number = false
is_number (Some free) number = free == number

-- an entry is legal after a history: an acquire names the free box of least number; a refusal stands where as many
-- boxes of the id are out as were made, and says so; a give is of a box that is out, by a later entry of its holder's
-- codec
abbrev pub is_legal_next : List CoderId → List SlotEntry → SlotEntry → Bool
is_legal_next made before e = elim (e.op) [ slot.Acquire id number ↦ is_number (least_free id made before) number | slot.Refused id out all ↦ (out == out_of id made before) && (all == made_of id made) && (out == all) | slot.Give id number ↦ may_give (holder_of id number before) e.by ]

-- each of these entries is legal after those before it
abbrev pub is_legal_from : List CoderId → List SlotEntry → List SlotEntry → Bool
is_legal_from made before [] = true
is_legal_from made before (e ∷ rest) = is_legal_next made before e && is_legal_from made (before ++ e ∷ []) rest

-- a registry that was opened with coders of these ids can have this history
abbrev pub is_legal_slots : List CoderId → List SlotEntry → Bool
is_legal_slots made history = is_legal_from made [] history

-- the box is out, and who holds it is the cause that it says
abbrev pub IsHeld : SlotsValue → Lent → Type 0
IsHeld s lent = holder_of lent.id lent.number s.history ≡ Some lent.by

-- the boxes that are out stay with their holders
pub record KeepsBoxes (old new : SlotsValue) : Type 0 where
  pub stay : (lent : Lent) → IsHeld old lent → IsHeld new lent

-- the boxes that are out stay with their holders, all but the one of this id and number
pub record KeepsOthers (old new : SlotsValue) (id : CoderId) (number : ℕ) : Type 0 where
  pub stay : (lent : Lent) → is_box lent.id lent.number id number ≡ false → IsHeld old lent → IsHeld new lent

-- the box is the free one of least number, lent to this cause
pub record IsLeastFree (cause : By) (wanted : CoderId) (s : SlotsValue) (lent : Lent) : Type 0 where
  pub id : lent.id ≡ wanted
  pub by : lent.by ≡ cause
  pub number : least_free wanted s.made s.history ≡ Some lent.number
  pub free : is_out wanted lent.number s.history ≡ false

-- no box of the id is free: what the refusal says, and the entry that it leaves
pub record IsRefusal (cause : By) (wanted : CoderId) (old new : SlotsValue) (place count all : ℕ) : Type 0 where
  pub none_free : least_free wanted old.made old.history ≡ None
  pub entry : place ≡ length old.history
  pub out : count ≡ out_of wanted old.made old.history
  pub made : all ≡ made_of wanted old.made
  pub equal : count ≡ all
  pub recorded : new ≡ acquired cause wanted old

-- why a box was not handed out: none is free; or want of memory, with no entry
abbrev pub IsFaultOf : By → CoderId → SlotsValue → SlotsValue → AcquireFault → Type 0
IsFaultOf cause id old new (fault.NoSlot place count all) = IsRefusal cause id old new place count all
IsFaultOf cause id old new fault.NoMemory = new ≡ old
