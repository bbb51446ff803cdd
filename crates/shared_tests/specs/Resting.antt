-- Seats that rest between calls.
use Rattle.std.specs.Prelude.{◌≡◌, List, Option}
use Rattle.atomic_table.specs.Seated.{TableId}
use Rattle.atomic_table.specs.declared.shared.Seat.{Seat}
use Rattle.wc_base.specs.declared.seat.View.{View}
use Rattle.seat_lock.specs.Seats.{IsIdleAt}
use Rattle.wc_pool.specs.declared.entry.PoolEntry.{PoolEntry}
use Rattle.shared_pool.specs.declared.at.PoolAt.{PoolAt}
use Rattle.shared_pool.specs.At.{MadeAt}
use Rattle.shared_pool.specs.Refs.{IsPoolRef}
use Rattle.shared_pool.specs.Steps as pools
use Rattle.shared_slots.specs.Boxes.{Registry}
use Rattle.shared_slots.specs.Steps as slots
use Rattle.shared_codec.specs.Shared.{Shared}
use Rattle.shared_tests.specs.declared.parts.Seats.{Seats}
use Rattle.shared_tests.specs.declared.parts.Part.{Part}

-- the seat is idle at its lock again, with as many parts
abbrev pub Rests : {S E : Type 0} → Seat (Option S) (View E) → Seat (Option S) (View E) → Type 0
Rests a b = IsIdleAt a.table_id b × (b.me.0.parts ≡ a.me.0.parts)

-- the same pool at the same seat, with which some entries were made since
pub record IsLater {R : Type 0} (a b : PoolAt R) : Type 0 where
  pub entries : List PoolEntry
  pub made : MadeAt entries a b

-- the two codecs are of this registry and of this pool
pub record IsDesk (f g : Shared) (r : Registry) (p : TableId) : Type 0 where
  pub first_slots : r.id ≡ f.slots
  pub first_pool : p ≡ f.pool
  pub second_slots : r.id ≡ g.slots
  pub second_pool : p ≡ g.pool

-- the seats are idle at their locks, hold no claims, and have as many parts each
pub record AreLive (f g : Shared) (r : Registry) (p : TableId) (s : Seats) : Type 0 where
  pub first : IsIdleAt f.id s.first
  pub second : IsIdleAt g.id s.second
  pub slots_free : slots.IsFree r.id s.slots
  pub pool_free : pools.IsFree p s.pool
  pub first_parts : s.first.me.0.parts ≡ s.pool.me.0.parts
  pub second_parts : s.second.me.0.parts ≡ s.pool.me.0.parts
  pub slots_parts : s.slots.me.0.parts ≡ s.pool.me.0.parts

-- a caller can begin
pub record IsReady (f g : Shared) (r : Registry) (p : TableId) (x : Part) : Type 0 where
  pub desk : IsDesk f g r p
  pub live : AreLive f g r p x.seats
  pub medium_is : IsPoolRef p x.medium.reference

-- the seats are as before, but for what was made with them
pub record AreKept (f g : Shared) (r : Registry) (p : TableId) (s t : Seats) : Type 0 where
  pub live : AreLive f g r p t
  pub parts : t.pool.me.0.parts ≡ s.pool.me.0.parts
