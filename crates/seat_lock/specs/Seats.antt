-- Seats, and the views that they have after each call.
use Rattle.std.specs.Prelude.{◌≡◌, ℕ, ◌+◌, ◌-◌, ◌^◌, List, [], ◌∷◌, ◌++◌, Option, Bool}
use Rattle.atomic_table.specs.Seated.{TableId}
use Rattle.atomic_table.specs.Table.{Me}
use Rattle.atomic_table.specs.declared.shared.Seat.{Seat}
use Rattle.wc_base.specs.Views.{Log}
use Rattle.wc_base.specs.declared.seat.Passage.{Passage}
use Rattle.wc_base.specs.declared.seat.Phase.{Phase}
use Rattle.wc_base.specs.declared.seat.Phase.TheVariants.{New, Idle, Union, Empty}
use Rattle.wc_base.specs.declared.seat.View.{View}
use Rattle.seat_lock.specs.Claims.{remove_claim, claims_after}
use Rattle.seat_lock.specs.Logs.{longer}

-- a lock: which one it is, and what it was opened about
pub record Lock (A : Type 0) : Type 0 where
  pub id : TableId
  pub about : A

-- a seat's view, and what it has taken out of the slot
abbrev pub Sitting : Type 0 → Type 0 → Type 0
Sitting S E = Me (Option S) (View E)

module _ {E : Type 0} where
  -- the view of a lock's first seat, which has all the parts
  abbrev pub first_view : View E
  first_view = record { number = 0; numbers = 0 ∷ []; log = []; parts = 2 ^ 32; claims = []; phase = Idle }

  abbrev pub with_phase : View E → Phase E → View E
  with_phase v phase = record { number = v.number; numbers = v.numbers; log = v.log; parts = v.parts; claims = v.claims; phase = phase }

  -- the view after a passage of its seat that follows this log
  abbrev pub after_passage : (E → Bool) → (List E → E → Option ℕ) → View E → Log E → Passage E → View E
  after_passage mints spends v log p = record { number = v.number; numbers = v.numbers; log = log ++ (v.number, p) ∷ []; parts = v.parts; claims = claims_after mints spends v.claims log p; phase = Idle }

  -- one part less
  abbrev pub less_part : View E → View E
  less_part v = record { number = v.number; numbers = v.numbers; log = v.log; parts = v.parts - 1; claims = v.claims; phase = v.phase }

  -- a view with one part, which has seen what v has
  abbrev pub one_part : View E → View E
  one_part v = record { number = 0; numbers = []; log = v.log; parts = 1; claims = []; phase = New }

  -- the view with its number
  abbrev pub with_number : View E → ℕ → View E
  with_number v n = record { number = n; numbers = n ∷ []; log = v.log; parts = v.parts; claims = v.claims; phase = Idle }

  -- v with the parts, numbers and claims of w, and the longer log
  abbrev pub union_view : View E → View E → View E
  union_view v w = record { number = v.number; numbers = v.numbers ++ w.numbers; log = longer v.log w.log; parts = v.parts + w.parts; claims = v.claims ++ w.claims; phase = Union v.numbers v.log w.numbers w.log }

  -- what is left of a view that was joined to another
  abbrev pub empty_view : View E
  empty_view = record { number = 0; numbers = []; log = []; parts = 0; claims = []; phase = Empty }

  -- one claim less
  abbrev pub less_claim : ℕ → View E → View E
  less_claim claim v = record { number = v.number; numbers = v.numbers; log = v.log; parts = v.parts; claims = remove_claim claim v.claims; phase = v.phase }

module _ {S E : Type 0} where
  abbrev pub IsSameSeat : Seat (Option S) (View E) → Seat (Option S) (View E) → Type 0
  IsSameSeat a b = (b.table_id ≡ a.table_id) × (b.id ≡ a.id)

  -- the seat is in no passage
  abbrev pub IsIdle : Seat (Option S) (View E) → Type 0
  IsIdle a = (a.me.0.phase ≡ Idle) × (a.me.1 ≡ [])

  -- the seat is of this lock, and in no passage
  abbrev pub IsIdleAt : TableId → Seat (Option S) (View E) → Type 0
  IsIdleAt id a = (a.table_id ≡ id) × IsIdle a

  -- the seat is idle, with this view
  abbrev pub HasView : View E → Seat (Option S) (View E) → Type 0
  HasView v a = a.me ≡ (v, [])

  -- the seat stays, and is idle with this view
  abbrev pub Becomes : View E → Seat (Option S) (View E) → Seat (Option S) (View E) → Type 0
  Becomes v a b = IsSameSeat a b × HasView v b

-- a table of two words and one slot
abbrev pub IsLockTable : TableId → Type 0
IsLockTable id = (id.words ≡ 2) × (id.slots ≡ 1)
