-- How a pool keeps its resources.
use Rattle.std.specs.Prelude.{ℕ, ◌≡◌, ◌<◌, ◌+◌, ◌-◌, ◌==◌, Bool, true, List, Option, Some, None, if◌then◌else◌}
use Rattle.slab.specs.Slab.{Slab, get, Updates}
use Rattle.wc_pool.specs.declared.entry.PoolEntry.{PoolEntry}
use Rattle.wc_pool.specs.declared.pool.Resource.{Resource}
use Rattle.wc_pool.specs.Bag.{resource_of, references_of, references_made, resources_made, held_in, live_in, is_legal_pool}

-- a key has the resource of this number
pub record KeyOf (s : Slab Resource) (number : ℕ) : Type 0 where
  pub key : ℕ
  pub kept : Resource
  pub there : get s key ≡ Some kept
  pub same : kept.number ≡ number

-- each resource that is held is kept once, with the count of its references
pub record IsKept (s : Slab Resource) (history : List PoolEntry) : Type 0 where
  pub references : (f r : ℕ) → resource_of f history ≡ Some r → f < references_made history
  pub resources : (f r : ℕ) → resource_of f history ≡ Some r → r < resources_made history
  pub counts : (k : ℕ) (x : Resource) → get s k ≡ Some x → x.count ≡ references_of x.number history
  pub some : (k : ℕ) (x : Resource) → get s k ≡ Some x → 0 < x.count
  pub once : (j k : ℕ) (x y : Resource) → get s j ≡ Some x → get s k ≡ Some y → x.number ≡ y.number → j ≡ k
  pub found : (r : ℕ) → 0 < references_of r history → KeyOf s r
  pub legal : is_legal_pool history ≡ true

-- this key has the resource of this number
pub record HasResource (s : Slab Resource) (number key : ℕ) : Type 0 where
  pub kept : Resource
  pub there : get s key ≡ Some kept
  pub same : kept.number ≡ number

-- the resource has one reference more
pub record AddsOne (old new : Slab Resource) (number key : ℕ) : Type 0 where
  pub was : Resource
  pub there : get old key ≡ Some was
  pub same : was.number ≡ number
  pub updates : Updates old new key (Some (record was { count = was.count + 1 }))

-- what is left of a resource at its key when it loses a reference
abbrev pub resource_left : Resource → Bool → Option Resource
resource_left x last = if last then None else Some (record x { count = x.count - 1 })

-- the resource has one reference less, and leaves with the last one
pub record DropsOne (old new : Slab Resource) (number key : ℕ) (last : Bool) : Type 0 where
  pub was : Resource
  pub there : get old key ≡ Some was
  pub same : was.number ≡ number
  pub is_last : last ≡ (was.count == 1)
  pub updates : Updates old new key (resource_left was last)

-- what a pool keeps beside its history: its resources, how many were made, how many references were made, how many
-- resources are held, and how many references are live
pub record IsPool (s : Slab Resource) (history : List PoolEntry) (made minted held live : ℕ) : Type 0 where
  pub kept : IsKept s history
  pub all_made : made ≡ resources_made history
  pub all_minted : minted ≡ references_made history
  pub all_held : held ≡ held_in history
  pub all_live : live ≡ live_in history

-- one less where the flag is set
abbrev pub less_if : Bool → ℕ → ℕ
less_if b n = if b then n - 1 else n
