-- What a pool's calls say of its references.
use Rattle.std.specs.Prelude.{ℕ, ◌≡◌, ◌≢◌, Bool, true, List, [], ◌∷◌, ◌++◌, Option, Some}
use Rattle.atomic_table.specs.declared.badge.Badge.{Badge}
use Rattle.wc_base.specs.declared.seat.View.{View}
use Rattle.wc_base.specs.declared.who.By.{By}
use Rattle.wc_pool.specs.declared.entry.PoolEntry.{PoolEntry}
use Rattle.wc_pool.specs.declared.entry.PoolOp.TheVariants as op
use Rattle.wc_pool.specs.declared.reference.MediaRef.{MediaRef}
use Rattle.wc_pool.specs.Bag.{resource_of, is_legal_next, is_legal_pool}

-- the reference's pair is live in this history
abbrev pub IsLive : List PoolEntry → MediaRef → Type 0
IsLive history r = resource_of r.number history ≡ Some r.resource

-- the entries of the two kinds that make a reference, and of the kind that ends one
abbrev pub made_by : By → MediaRef → PoolEntry
made_by cause r = record { by = cause; op = op.Make r.resource r.number }

abbrev pub cloned_by : By → MediaRef → PoolEntry
cloned_by cause r = record { by = cause; op = op.Clone r.resource r.number }

abbrev pub ended_by : By → MediaRef → Bool → PoolEntry
ended_by cause r last = record { by = cause; op = op.End r.resource r.number last }

-- a history with one more entry, which is legal there
pub record Adds (old new : List PoolEntry) (e : PoolEntry) : Type 0 where
  pub longer : new ≡ old ++ e ∷ []
  pub next : is_legal_next old e ≡ true
  pub legal : is_legal_pool new ≡ true

-- every reference that was of a pool still is
pub record KeepsAll (old new : MediaRef → Type 0) : Type 0 where
  pub stay : (r : MediaRef) → old r → new r

-- every reference that was of a pool still is, all but the one with this number
pub record KeepsOthers (number : ℕ) (old new : MediaRef → Type 0) : Type 0 where
  pub stay : (r : MediaRef) → r.number ≢ number → old r → new r

-- a clone has its resource's number and bytes
pub record IsCloneOf (r q : MediaRef) : Type 0 where
  pub same_resource : q.resource ≡ r.resource
  pub same_bytes : q.bytes ≡ r.bytes
  pub apart : q.number ≢ r.number

abbrev pub with_token : Option (Badge (View PoolEntry)) → MediaRef → MediaRef
with_token token r = record r { token = token }
