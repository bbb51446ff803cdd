-- Seats at a codec, at its registry and at its pool.
use Rattle.std.specs.Prelude.{◌≡◌, ℕ}
use Rattle.seat_lock.specs.Seats.{IsIdleAt}
use Rattle.shared_pool.specs.Steps as pools
use Rattle.shared_slots.specs.Steps as slots
use Rattle.shared_speed.specs.declared.shared.Desk.{Desk}
use Rattle.shared_speed.specs.declared.shared.Seats.{Seats}

-- the codec is of this registry and of this pool
pub record IsDesk (d : Desk) : Type 0 where
  pub slots_are : d.slots.id ≡ d.codec.slots
  pub pool_is : d.pool ≡ d.codec.pool

-- the seats are idle at their locks, hold no claims, and have as many parts each
pub record AreLive (d : Desk) (s : Seats) : Type 0 where
  pub codec_idle : IsIdleAt d.codec.id s.codec
  pub slots_free : slots.IsFree d.slots.id s.slots
  pub pool_free : pools.IsFree d.pool s.pool
  pub slots_parts : s.slots.me.0.parts ≡ s.codec.me.0.parts
  pub pool_parts : s.pool.me.0.parts ≡ s.codec.me.0.parts

-- the seats are as before, but for what was made with them
pub record AreKept (d : Desk) (s t : Seats) : Type 0 where
  pub live : AreLive d t
  pub parts : t.codec.me.0.parts ≡ s.codec.me.0.parts
