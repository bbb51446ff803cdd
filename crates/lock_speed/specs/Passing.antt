-- Passages of which nothing is told.
use Rattle.std.specs.Prelude.{◌≡◌, ℕ, Bool, false, List, Option, None}
use Rattle.atomic_table.specs.declared.shared.Seat.{Seat}
use Rattle.wc_base.specs.declared.seat.View.{View}
use Rattle.seat_lock.specs.Seats.{IsIdleAt}

abbrev pub mints_none : {E : Type 0} → E → Bool
mints_none e = false

abbrev pub spends_none : {E : Type 0} → List E → E → Option ℕ
spends_none es e = None

-- the seat is idle at its lock again, with as many parts
abbrev pub Rests : {S E : Type 0} → Seat (Option S) (View E) → Seat (Option S) (View E) → Type 0
Rests a b = IsIdleAt a.table_id b × (b.me.0.parts ≡ a.me.0.parts)
