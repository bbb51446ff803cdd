-- Audio data as contracts see it (W3C WebCodecs, AudioData).
use Rattle.std.specs.Prelude.{◌*◌, ◌==◌, ◌||◌, ◌≤◌, ◌≡◌, nat_lt, ℕ, Bool, true, false, List, length, take, Option, Some, None, IfSome, is_some, option_map}
use Rattle.wc_base.specs.declared.media.SoundShape.{SoundShape}
use Rattle.wc_base.specs.declared.who.By.{By}
use Rattle.wc_base.specs.declared.error.DomError.{DomError}
use Rattle.wc_base.specs.declared.error.DomError.TheVariants as dom
use Rattle.codec_definitions.specs.Pcm.{format_size}
use Rattle.wc_pool.specs.declared.reference.MediaRef.{MediaRef}
use Rattle.wc_pool.specs.declared.entry.PoolEntry.{PoolEntry}
use Rattle.wc_pool.specs.declared.entry.MediaFault.{MediaFault}
use Rattle.wc_pool.specs.declared.entry.MediaFault.TheVariants as fault
use Rattle.wc_pool.specs.Pools.{made_by, cloned_by, ended_by, KeepsAll, KeepsOthers, IsCloneOf}

-- its shape, and the reference that it holds; none where it is detached
pub record Sound : Type 0 where
  pub shape : SoundShape
  pub held : Option MediaRef

-- the data with so much of its reference
abbrev pub held_as : (MediaRef → MediaRef) → Sound → Sound
held_as part s = record { shape = s.shape; held = option_map part s.held }

-- as many bytes as a shape needs
abbrev pub needed : SoundShape → ℕ
needed shape = shape.frames * shape.channels * format_size shape.format

-- an init that is refused: nothing to a second, no frame, no channel, or fewer bytes than the shape needs
abbrev pub is_invalid : SoundShape → ℕ → Bool
is_invalid shape count = (shape.rate == 0) || (shape.frames == 0) || (shape.channels == 0) || nat_lt count (needed shape)

-- the reference has the bytes that the shape needs
abbrev pub IsEnough : SoundShape → Option MediaRef → Type 0
IsEnough shape held = IfSome held (λ r. needed shape ≤ length r.bytes)

-- the bytes that the shape needs; none of one that is detached
abbrev pub content_of : Sound → Option (List ℕ)
content_of s = option_map (λ r. take (needed s.shape) r.bytes) s.held

-- the reference that is held, if one is, is of a pool
abbrev pub IsHeldOf : (MediaRef → Type 0) → Sound → Type 0
IsHeldOf is_of s = IfSome s.held is_of

-- a pool's call made a reference of these bytes, and the data holds it
pub record IsMadeBy (adds : PoolEntry → Type 0) (cause : By) (shape : SoundShape) (bytes : List ℕ) (s : Sound) : Type 0 where
  pub reference : MediaRef
  pub is : s ≡ record { shape = shape; held = Some reference }
  pub added : adds (made_by cause reference)
  pub same_bytes : reference.bytes ≡ bytes

-- a reference was taken over as it is, by an init that is valid
pub record IsAdopted (invalid : Bool) (shape : SoundShape) (held : MediaRef) (s : Sound) : Type 0 where
  pub valid : invalid ≡ false
  pub is : s ≡ record { shape = shape; held = Some held }

-- it came back, since the init is invalid
pub record IsRefused (invalid : Bool) (held : MediaRef) (e : DomError × MediaRef) : Type 0 where
  pub error : e.0 ≡ dom.TypeErr
  pub same : e.1 ≡ held
  pub was : invalid ≡ true

-- a pool's call cloned the reference of open data, and other data of the same shape holds the clone
pub record IsCloneBy (adds : PoolEntry → Type 0) (cause : By) (old s : Sound) : Type 0 where
  pub reference : MediaRef
  pub was : MediaRef
  pub held : old.held ≡ Some was
  pub is : s ≡ record { shape = old.shape; held = Some reference }
  pub added : adds (cloned_by cause reference)
  pub clone : IsCloneOf was reference

-- why data was not made: its init is invalid, and nothing has changed; or it is valid, and memory was wanted
abbrev pub IsInitFault : Bool → Type 0 → Type 0 → MediaFault → Type 0
IsInitFault invalid same stays (fault.Dom e) = (e ≡ dom.TypeErr) × (invalid ≡ true) × same
IsInitFault invalid same stays fault.NoMemory = (invalid ≡ false) × stays

-- why data was not cloned: it is detached, and nothing has changed; or it is open, and memory was wanted
abbrev pub IsCloneFault : Sound → Type 0 → Type 0 → MediaFault → Type 0
IsCloneFault s same stays (fault.Dom e) = (e ≡ dom.InvalidState) × (s.held ≡ None) × same
IsCloneFault s same stays fault.NoMemory = (is_some s.held ≡ true) × stays

-- the reference of data that is closed ends; nothing is done where it is detached
abbrev pub Closes : (PoolEntry → Type 0) → Type 0 → By → Option MediaRef → Bool → Type 0
Closes adds same cause None last = same × (last ≡ false)
Closes adds same cause (Some r) last = adds (ended_by cause r last)

-- all other references stay those of their pool
abbrev pub KeepsButHeld : Option MediaRef → (MediaRef → Type 0) → (MediaRef → Type 0) → Type 0
KeepsButHeld None old new = KeepsAll old new
KeepsButHeld (Some r) old new = KeepsOthers r.number old new
