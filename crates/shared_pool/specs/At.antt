-- A shared pool at one seat.
use Rattle.std.proofs.Common.{◌≡◌, List, [], ◌∷◌, ◌++◌, refl, ◌∙◌}
use Rattle.std.specs.Prelude.{Option}
use Rattle.std.specs.Borrow.{MutBor}
use Rattle.atomic_table.specs.Seated.{TableId}
use Rattle.atomic_table.specs.declared.shared.Seat.{Seat}
use Rattle.wc_base.specs.declared.seat.View.{View}
use Rattle.wc_pool.specs.declared.entry.PoolEntry.{PoolEntry}
use Rattle.wc_pool.specs.declared.reference.MediaRef.{MediaRef}
use Rattle.seat_lock.specs.Seats.{IsSameSeat}
use Rattle.seat_lock.specs.Since.{MadeSince}
use Rattle.seat_lock.specs.SinceLaws.{made_none, made_then}
use Rattle.shared_pool.specs.declared.at.PoolAt.{PoolAt}
use Rattle.shared_pool.specs.declared.pool.LockedPool.{LockedPool}
use Rattle.shared_pool.specs.Refs.{IsPoolRef}

module _ {R : Type 0} where
  -- it is this pool, at this seat, with which nothing was made since
  pub record SitsAt (pool : TableId) (seat : MutBor (Seat (Option LockedPool) (View PoolEntry))) (p : PoolAt R) : Type 0 where
    pub pool_is : p.pool.now ≡ pool
    pub borrowed : p.seat.ghost_name ≡ seat.ghost_name
    pub seat_is : p.seat.now ≡ seat.now

  -- It is the same pool, at the same seat, which has made these entries since, in order, and no others.
  pub record MadeAt (es : List PoolEntry) (a b : PoolAt R) : Type 0 where
    pub pool_is : b.pool.now ≡ a.pool.now
    pub borrowed : b.seat.ghost_name ≡ a.seat.ghost_name
    pub same : IsSameSeat a.seat.now b.seat.now
    pub made : MadeSince a.seat.now.me.0 b.seat.now.me.0 es

  abbrev pub AddsAt : PoolAt R → PoolAt R → PoolEntry → Type 0
  AddsAt a b e = MadeAt (e ∷ []) a b

  abbrev pub IsRefAt : PoolAt R → MediaRef → Type 0
  IsRefAt p r = IsPoolRef p.pool.now r

  pub at_none : (a : PoolAt R) → MadeAt [] a a
  at_none a = record { pool_is = refl; borrowed = refl; same = (refl, refl); made = made_none a.seat.now.me.0 }

  pub at_then : (a b c : PoolAt R) (es fs : List PoolEntry) → MadeAt es a b → MadeAt fs b c → MadeAt (es ++ fs) a c
  at_then a b c es fs x y = record {
    pool_is = y.pool_is ∙ x.pool_is;
    borrowed = y.borrowed ∙ x.borrowed;
    same = (y.same.0 ∙ x.same.0, y.same.1 ∙ x.same.1);
    made = made_then a.seat.now.me.0 b.seat.now.me.0 c.seat.now.me.0 es fs x.made y.made;
  }
