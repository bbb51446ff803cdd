-- Array buffers as contracts see them: the reference that each holds.
use Rattle.std.specs.Prelude.{◌≡◌, ℕ, Bool, true, false, List, [], Option, Some, None, is_some}
use Rattle.wc_base.specs.declared.who.By.{By}
use Rattle.wc_base.specs.declared.error.DomError.TheVariants as dom
use Rattle.wc_pool.specs.declared.reference.MediaRef.{MediaRef}
use Rattle.wc_pool.specs.declared.entry.MediaFault.{MediaFault}
use Rattle.wc_pool.specs.declared.entry.MediaFault.TheVariants as fault
use Rattle.wc_pool.specs.declared.entry.PoolEntry.{PoolEntry}
use Rattle.wc_pool.specs.Pools.{made_by, cloned_by, ended_by, KeepsAll, KeepsOthers, IsCloneOf}

-- the bytes of a buffer; none of one that is detached
abbrev pub bytes_of : Option MediaRef → List ℕ
bytes_of None = []
bytes_of (Some r) = r.bytes

-- a pool's call made a reference of these bytes, and the buffer holds it
pub record IsMadeBy (adds : PoolEntry → Type 0) (cause : By) (bytes : List ℕ) (b : Option MediaRef) : Type 0 where
  pub reference : MediaRef
  pub is : b ≡ Some reference
  pub added : adds (made_by cause reference)
  pub same_bytes : reference.bytes ≡ bytes

-- a pool's call cloned the reference of an open buffer, and another buffer holds the clone
pub record IsCloneBy (adds : PoolEntry → Type 0) (cause : By) (old b : Option MediaRef) : Type 0 where
  pub reference : MediaRef
  pub was : MediaRef
  pub held : old ≡ Some was
  pub is : b ≡ Some reference
  pub added : adds (cloned_by cause reference)
  pub clone : IsCloneOf was reference

-- why a buffer was not cloned: it is detached, and nothing has changed; or it is open, and memory was wanted
abbrev pub IsCloneFault : Option MediaRef → Type 0 → Type 0 → MediaFault → Type 0
IsCloneFault b same stays (fault.Dom e) = (e ≡ dom.InvalidState) × (b ≡ None) × same
IsCloneFault b same stays fault.NoMemory = (is_some b ≡ true) × stays

-- the reference of a buffer ends; nothing is done where it is detached
abbrev pub Closes : (PoolEntry → Type 0) → Type 0 → By → Option MediaRef → Bool → Type 0
Closes adds same cause None last = same × (last ≡ false)
Closes adds same cause (Some r) last = adds (ended_by cause r last)

-- all other references stay those of their pool
abbrev pub KeepsButHeld : Option MediaRef → (MediaRef → Type 0) → (MediaRef → Type 0) → Type 0
KeepsButHeld None old new = KeepsAll old new
KeepsButHeld (Some r) old new = KeepsOthers r.number old new
