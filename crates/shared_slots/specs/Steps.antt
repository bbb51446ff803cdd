-- What passages through the lock of a registry do with boxes.
use Rattle.std.specs.Prelude.{ℕ, ◌≡◌, true, List, [], ◌∷◌, ◌++◌, length, Option, Some, None, Result, Ok, Err}
use Rattle.atomic_table.specs.Seated.{TableId}
use Rattle.atomic_table.specs.declared.shared.Seat.{Seat}
use Rattle.wc_base.specs.declared.who.By.{By}
use Rattle.wc_base.specs.Views.{Log}
use Rattle.wc_base.specs.declared.seat.Passage.{Passage}
use Rattle.wc_base.specs.declared.seat.Passage.TheVariants.{Made, Look}
use Rattle.wc_base.specs.declared.seat.View.{View}
use Rattle.wc_config.specs.declared.codec.CoderId.{CoderId}
use Rattle.coder_api.specs.declared.slot.SlotEntry.{SlotEntry}
use Rattle.coder_api.specs.declared.slot.SlotOp.TheVariants as slot
use Rattle.coder_api.specs.Lent.{Lent, with_token}
use Rattle.slot_registry.specs.declared.slots.AcquireFault.{AcquireFault}
use Rattle.slot_registry.specs.declared.slots.AcquireFault.TheVariants as fault
use Rattle.slot_registry.specs.Boxes.{holder_of, made_of, out_of, least_free}
use Rattle.slot_registry.specs.Slots.{SlotsValue, is_legal_slots}
use Rattle.seat_lock.specs.Logs.{Continues, entries_of}
use Rattle.seat_lock.specs.Seats.{IsIdle, IsIdleAt}
use Rattle.seat_lock.specs.Since.{MadeSince}
use Rattle.seat_lock.specs.Claims.{IsLive}
use Rattle.shared_slots.specs.Boxes.{acquires, gives, StandsOut}

-- the seat is of this registry, in no passage, and holds no claim
abbrev pub IsFree : TableId → Seat (Option SlotsValue) (View SlotEntry) → Type 0
IsFree registry a = IsIdleAt registry a × (a.me.0.claims ≡ [])

-- the entries of passages with boxes
abbrev pub went_out : By → CoderId → ℕ → SlotEntry
went_out cause id number = record { by = cause; op = slot.Acquire id number }

abbrev pub refused : By → CoderId → ℕ → ℕ → SlotEntry
refused cause id out made = record { by = cause; op = slot.Refused id out made }

abbrev pub came_back : By → Lent → SlotEntry
came_back cause lent = record { by = cause; op = slot.Give lent.id lent.number }

-- the log begins with one by which the box was out
pub record KnowsOut (claim : ℕ) (lent : Lent) (log : Log SlotEntry) : Type 0 where
  pub before : Log SlotEntry
  pub rest : Log SlotEntry
  pub is : log ≡ before ++ rest
  pub out : StandsOut claim lent (entries_of before)

-- a box whose claim is live is out
abbrev pub LiveClaimsAreOut : Type 0
LiveClaimsAreOut = (made : List CoderId) (claim : ℕ) (lent : Lent) (log : Log SlotEntry) → KnowsOut claim lent log → is_legal_slots made (entries_of log) ≡ true → IsLive acquires gives claim log → StandsOut claim lent (entries_of log)

-- the seat holds the claim of the box, and no other
pub record HoldsBox (claim : ℕ) (lent : Lent) (a : Seat (Option SlotsValue) (View SlotEntry)) : Type 0 where
  pub claims : a.me.0.claims ≡ claim ∷ []
  pub knows : KnowsOut claim lent a.me.0.log

-- the same where the box is out by all that the seat has seen
pub record HasOut (claim : ℕ) (lent : Lent) (a : Seat (Option SlotsValue) (View SlotEntry)) : Type 0 where
  pub claims : a.me.0.claims ≡ claim ∷ []
  pub out : StandsOut claim lent (entries_of a.me.0.log)

-- the claim of a box went to the seat
pub record TakesBox (lent : Lent) (a b : Seat (Option SlotsValue) (View SlotEntry)) : Type 0 where
  pub claim : ℕ
  pub idle : IsIdle b
  pub since : MadeSince a.me.0 b.me.0 []
  pub goes : Continues a.me.0.numbers a.me.0.log b.me.0.log
  pub holds : HoldsBox claim (with_token None lent) b

-- The seat made this entry after a legal history that begins with what it had seen, and that went on with passages of others.
pub record MadeAfter (made : List CoderId) (v w : View SlotEntry) (e : SlotEntry) : Type 0 where
  pub since : MadeSince v w (e ∷ [])
  pub before : Log SlotEntry
  pub begins : Continues v.numbers v.log before
  pub after : w.log ≡ before ++ (v.number, Made e) ∷ []
  pub legal : is_legal_slots made (entries_of before) ≡ true

-- a box went out: the free one of least number
pub record AcquiredAfter (made : List CoderId) (cause : By) (id : CoderId) (lent : Lent) (v w : View SlotEntry) : Type 0 where
  pub entry : MadeAfter made v w (went_out cause id lent.number)
  pub is_of : lent.id ≡ id
  pub by : lent.by ≡ cause
  pub free : least_free id made (entries_of entry.before) ≡ Some lent.number

-- all boxes of the id were out
pub record RefusedAfter (made : List CoderId) (cause : By) (id : CoderId) (place out all : ℕ) (v w : View SlotEntry) : Type 0 where
  pub entry : MadeAfter made v w (refused cause id out all)
  pub at : place ≡ length (entries_of entry.before)
  pub none_free : least_free id made (entries_of entry.before) ≡ None
  pub out_is : out ≡ out_of id made (entries_of entry.before)
  pub all_is : all ≡ made_of id made
  pub all_out : out ≡ all

-- what an acquire tells
abbrev pub AcquireTells : List CoderId → By → CoderId → Result Lent AcquireFault → View SlotEntry → View SlotEntry → Type 0
AcquireTells made cause id (Ok lent) v w = AcquiredAfter made cause id lent v w
AcquireTells made cause id (Err (fault.NoSlot place out all)) v w = RefusedAfter made cause id place out all v w
AcquireTells made cause id (Err fault.NoMemory) v w = MadeSince v w []

-- what a give tells: the box was out in the history before it, held by who it says
pub record Gave (made : List CoderId) (cause : By) (lent : Lent) (v w : View SlotEntry) : Type 0 where
  pub entry : MadeAfter made v w (came_back cause lent)
  pub out : holder_of lent.id lent.number (entries_of entry.before) ≡ Some lent.by

-- ---- inside a passage

abbrev pub AcquirePassage : By → CoderId → Result (Lent × ℕ) AcquireFault → Passage SlotEntry → Type 0
AcquirePassage cause id (Ok r) p = p ≡ Made (went_out cause id r.0.number)
AcquirePassage cause id (Err (fault.NoSlot place out all)) p = p ≡ Made (refused cause id out all)
AcquirePassage cause id (Err fault.NoMemory) p = p ≡ Look

pub record AcquiredIn (made : List CoderId) (cause : By) (id : CoderId) (lent : Lent) (claim : ℕ) (a b : Seat (Option SlotsValue) (View SlotEntry)) : Type 0 where
  pub idle : IsIdle b
  pub after : AcquiredAfter made cause id lent a.me.0 b.me.0
  pub has : HasOut claim lent b

pub record RefusedIn (P : Type 0) (a b : Seat (Option SlotsValue) (View SlotEntry)) : Type 0 where
  pub idle : IsIdle b
  pub after : P
  pub claims : b.me.0.claims ≡ a.me.0.claims

abbrev pub AcquiresIn : List CoderId → By → CoderId → Result (Lent × ℕ) AcquireFault → Seat (Option SlotsValue) (View SlotEntry) → Seat (Option SlotsValue) (View SlotEntry) → Type 0
AcquiresIn made cause id (Ok r) a b = AcquiredIn made cause id r.0 r.1 a b
AcquiresIn made cause id (Err (fault.NoSlot place out all)) a b = RefusedIn (RefusedAfter made cause id place out all a.me.0 b.me.0) a b
AcquiresIn made cause id (Err fault.NoMemory) a b = RefusedIn (MadeSince a.me.0 b.me.0 []) a b

pub record GivesIn (made : List CoderId) (cause : By) (lent : Lent) (a b : Seat (Option SlotsValue) (View SlotEntry)) : Type 0 where
  pub idle : IsIdle b
  pub gave : Gave made cause lent a.me.0 b.me.0
  pub claims : b.me.0.claims ≡ []
