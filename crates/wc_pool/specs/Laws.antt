-- What holds of the references of every history that a pool can have.
use Rattle.std.specs.Prelude.{ℕ, zero, suc, ◌≡◌, ◌<◌, true, false, List, [], ◌∷◌, Option, Some, None}
use Rattle.wc_base.specs.declared.who.By.TheVariants as by
use Rattle.wc_pool.specs.declared.entry.PoolEntry.{PoolEntry}
use Rattle.wc_pool.specs.declared.entry.PoolOp.{PoolOp}
use Rattle.wc_pool.specs.declared.entry.PoolOp.TheVariants as op
use Rattle.wc_pool.specs.Bag.{resource_of, references_made, resources_made, is_legal_next, is_legal_pool}

-- the entry at a place
abbrev pub entry_at : List PoolEntry → ℕ → Option PoolEntry
entry_at [] n = None
entry_at (e ∷ rest) zero = Some e
entry_at (e ∷ rest) (suc n) = entry_at rest n

-- the reference that is made, and the one that ends
abbrev pub made_reference : PoolOp → Option ℕ
made_reference (op.Make r f) = Some f
made_reference (op.Clone r f) = Some f
made_reference (op.End r f last) = None

abbrev pub ended_reference : PoolOp → Option ℕ
ended_reference (op.Make r f) = None
ended_reference (op.Clone r f) = None
ended_reference (op.End r f last) = Some f

-- what is made was not live before
abbrev pub MadeAreNew : Type 0
MadeAreNew = (h : List PoolEntry) (e : PoolEntry) (f : ℕ) → is_legal_pool h ≡ true → is_legal_next h e ≡ true →
    made_reference e.op ≡ Some f → resource_of f h ≡ None

-- live references and their resources have numbers below those of the next
abbrev pub LiveAreNumbered : Type 0
LiveAreNumbered = (h : List PoolEntry) (f r : ℕ) → is_legal_pool h ≡ true → resource_of f h ≡ Some r →
    (f < references_made h) × (r < resources_made h)

-- a reference ends once
abbrev pub EndOnce : Type 0
EndOnce = (h : List PoolEntry) (m n : ℕ) (d e : PoolEntry) (f : ℕ) → is_legal_pool h ≡ true →
    entry_at h m ≡ Some d → entry_at h n ≡ Some e → ended_reference d.op ≡ Some f → ended_reference e.op ≡ Some f → m ≡ n

-- a resource is made and cloned, and both references end; and the same where the first one ended as the last
abbrev pub entry_of : PoolOp → PoolEntry
entry_of o = record { by = by.Codec 0 0; op = o }

abbrev pub two_references : List PoolEntry
two_references = entry_of (op.Make 0 0) ∷ entry_of (op.Clone 0 1) ∷ entry_of (op.End 0 0 false) ∷ entry_of (op.End 0 1 true) ∷ []

abbrev pub given_back_too_soon : List PoolEntry
given_back_too_soon = entry_of (op.Make 0 0) ∷ entry_of (op.Clone 0 1) ∷ entry_of (op.End 0 0 true) ∷ []

abbrev pub ended_twice : List PoolEntry
ended_twice = entry_of (op.Make 0 0) ∷ entry_of (op.Clone 0 1) ∷ entry_of (op.End 0 0 false) ∷ entry_of (op.End 0 0 true) ∷ []
