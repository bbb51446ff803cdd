-- References to the resources of a shared pool.
use Rattle.std.specs.Prelude.{ℕ, ◌≡◌, true, List, [], ◌∷◌, ◌++◌, Option, Some, None}
use Rattle.atomic_table.specs.Seated.{TableId}
use Rattle.atomic_table.specs.declared.badge.Badge.{Badge}
use Rattle.wc_base.specs.Views.{Log, IsTokenWith}
use Rattle.wc_base.specs.declared.seat.View.{View}
use Rattle.wc_pool.specs.declared.entry.PoolEntry.{PoolEntry}
use Rattle.wc_pool.specs.declared.entry.PoolOp.TheVariants as op
use Rattle.wc_pool.specs.declared.reference.MediaRef.{MediaRef}
use Rattle.wc_pool.specs.Bag.{resource_of, mints, is_legal_pool}
use Rattle.seat_lock.specs.Logs.{entries_of}
use Rattle.seat_lock.specs.Claims.{IsLive}

-- the reference that an entry ends: the claim that it spends
abbrev pub ends : List PoolEntry → PoolEntry → Option ℕ
ends before e = elim (e.op) [ op.Make r f ↦ None | op.Clone r f ↦ None | op.End r f last ↦ Some f ]

-- a pool's history is that of the log, and legal
pub record IsPoolLog (history : List PoolEntry) (log : Log PoolEntry) : Type 0 where
  pub history_is : history ≡ entries_of log
  pub legal : is_legal_pool (entries_of log) ≡ true

-- The reference is of the pool behind this lock: it has a token of the lock, whose claim is its number, and which saw the
-- entry that made its pair.
pub record IsPoolRef (pool : TableId) (r : MediaRef) : Type 0 where
  pub token : Badge (View PoolEntry)
  pub view : View PoolEntry
  pub has : r.token ≡ Some token
  pub ours : token.table_id ≡ pool
  pub is_token : IsTokenWith view token
  pub bare : view.numbers ≡ []
  pub weightless : view.parts ≡ 0
  pub claims : view.claims ≡ r.number ∷ []
  pub made : resource_of r.number (entries_of view.log) ≡ Some r.resource

-- the log begins with one in which the reference's pair was live
pub record KnowsRef (r : MediaRef) (log : Log PoolEntry) : Type 0 where
  pub before : Log PoolEntry
  pub rest : Log PoolEntry
  pub is : log ≡ before ++ rest
  pub made : resource_of r.number (entries_of before) ≡ Some r.resource

-- a reference whose claim is live is live
abbrev pub LiveClaimsAreLive : Type 0
LiveClaimsAreLive = (r : MediaRef) (log : Log PoolEntry) → KnowsRef r log → is_legal_pool (entries_of log) ≡ true → IsLive mints ends r.number log → resource_of r.number (entries_of log) ≡ Some r.resource

-- each of these references, or the one that there is, is of the pool
abbrev pub AreOf : TableId → List MediaRef → Type 0
AreOf pool [] = Unit {0}
AreOf pool (r ∷ rs) = IsPoolRef pool r × AreOf pool rs

abbrev pub IfOf : TableId → Option MediaRef → Type 0
IfOf pool None = Unit {0}
IfOf pool (Some r) = IsPoolRef pool r
