-- What is kept of a pool's history, to tell whether its next entry is legal.
use Rattle.std.specs.Prelude.{ℕ, ◌≡◌, ◌<◌, ◌==◌, not, Bool, List, length, get_or, Option, Some, None, if◌then◌else◌}
use Rattle.wc_pool.specs.declared.entry.PoolEntry.{PoolEntry}
use Rattle.wc_pool.specs.Bag.{resource_of, references_of, references_made, resources_made}

-- a resource with so many references has one, where an end is the last, and else more
abbrev pub is_end : Bool → ℕ → Bool
is_end last n = if last then n == 1 else not (n == 1)

-- Of each reference that a history made its resource, while it is live; of each resource how many references to it are live.
pub record IsBag (history : List PoolEntry) (holders : List (Option ℕ)) (counts : List ℕ) : Type 0 where
  pub minted : length holders ≡ references_made history
  pub made : length counts ≡ resources_made history
  pub holds : (f : ℕ) → get_or holders f None ≡ resource_of f history
  pub counted : (r : ℕ) → get_or counts r 0 ≡ references_of r history
  pub numbered : (f r : ℕ) → resource_of f history ≡ Some r → r < resources_made history
