-- What passages through the lock of a pool do with references.
use Rattle.std.specs.Prelude.{◌≡◌, Bool, [], ◌∷◌, Option, Some, Result, Ok, Err}
use Rattle.atomic_table.specs.Seated.{TableId}
use Rattle.atomic_table.specs.declared.shared.Seat.{Seat}
use Rattle.wc_base.specs.declared.error.NoMemory.{NoMemory}
use Rattle.wc_base.specs.declared.who.By.{By}
use Rattle.wc_base.specs.Views.{Log}
use Rattle.wc_base.specs.declared.seat.Passage.{Passage}
use Rattle.wc_base.specs.declared.seat.Passage.TheVariants.{Made, Look}
use Rattle.wc_base.specs.declared.seat.View.{View}
use Rattle.wc_pool.specs.declared.entry.PoolEntry.{PoolEntry}
use Rattle.wc_pool.specs.declared.reference.MediaRef.{MediaRef}
use Rattle.wc_pool.specs.Bag.{resource_of}
use Rattle.wc_pool.specs.Pools.{made_by, cloned_by, ended_by, IsCloneOf}
use Rattle.seat_lock.specs.Logs.{entries_of}
use Rattle.seat_lock.specs.Seats.{IsIdle, IsIdleAt}
use Rattle.seat_lock.specs.Since.{MadeSince}
use Rattle.shared_pool.specs.declared.pool.LockedPool.{LockedPool}
use Rattle.shared_pool.specs.Refs.{KnowsRef}

-- the reference is live
abbrev pub KnowsLive : MediaRef → Log PoolEntry → Type 0
KnowsLive r log = resource_of r.number (entries_of log) ≡ Some r.resource

-- the seat is of this pool, in no passage, and holds no claim
abbrev pub IsFree : TableId → Seat (Option LockedPool) (View PoolEntry) → Type 0
IsFree pool a = IsIdleAt pool a × (a.me.0.claims ≡ [])

-- the claim of a reference went to the seat
pub record TakesRef (r : MediaRef) (a b : Seat (Option LockedPool) (View PoolEntry)) : Type 0 where
  pub idle : IsIdle b
  pub since : MadeSince a.me.0 b.me.0 []
  pub claims : b.me.0.claims ≡ r.number ∷ []
  pub known : KnowsRef r b.me.0.log

-- a passage made the entry of a clone, or a look
abbrev pub ClonePassage : By → Result MediaRef NoMemory → Passage PoolEntry → Type 0
ClonePassage cause (Ok q) p = p ≡ Made (cloned_by cause q)
ClonePassage cause (Err e) p = p ≡ Look

pub record ClonedIn (cause : By) (r q : MediaRef) (a b : Seat (Option LockedPool) (View PoolEntry)) : Type 0 where
  pub idle : IsIdle b
  pub since : MadeSince a.me.0 b.me.0 (cloned_by cause q ∷ [])
  pub claims : b.me.0.claims ≡ q.number ∷ r.number ∷ []
  pub live : KnowsLive r b.me.0.log
  pub clone : KnowsLive q b.me.0.log
  pub of : IsCloneOf r q

pub record NotCloned (r : MediaRef) (a b : Seat (Option LockedPool) (View PoolEntry)) : Type 0 where
  pub idle : IsIdle b
  pub since : MadeSince a.me.0 b.me.0 []
  pub claims : b.me.0.claims ≡ r.number ∷ []
  pub live : KnowsLive r b.me.0.log

abbrev pub ClonesIn : By → MediaRef → Result MediaRef NoMemory → Seat (Option LockedPool) (View PoolEntry) → Seat (Option LockedPool) (View PoolEntry) → Type 0
ClonesIn cause r (Ok q) a b = ClonedIn cause r q a b
ClonesIn cause r (Err e) a b = NotCloned r a b

pub record EndsIn (cause : By) (r : MediaRef) (last : Bool) (a b : Seat (Option LockedPool) (View PoolEntry)) : Type 0 where
  pub idle : IsIdle b
  pub since : MadeSince a.me.0 b.me.0 (ended_by cause r last ∷ [])
  pub claims : b.me.0.claims ≡ []

abbrev pub MakePassage : By → Result MediaRef NoMemory → Passage PoolEntry → Type 0
MakePassage cause (Ok q) p = p ≡ Made (made_by cause q)
MakePassage cause (Err e) p = p ≡ Look

pub record MadeIn (cause : By) (q : MediaRef) (a b : Seat (Option LockedPool) (View PoolEntry)) : Type 0 where
  pub idle : IsIdle b
  pub since : MadeSince a.me.0 b.me.0 (made_by cause q ∷ [])
  pub claims : b.me.0.claims ≡ q.number ∷ []
  pub live : KnowsLive q b.me.0.log

pub record NotMade (a b : Seat (Option LockedPool) (View PoolEntry)) : Type 0 where
  pub idle : IsIdle b
  pub since : MadeSince a.me.0 b.me.0 []
  pub claims : b.me.0.claims ≡ []

abbrev pub MakesIn : By → Result MediaRef NoMemory → Seat (Option LockedPool) (View PoolEntry) → Seat (Option LockedPool) (View PoolEntry) → Type 0
MakesIn cause (Ok q) a b = MadeIn cause q a b
MakesIn cause (Err e) a b = NotMade a b
