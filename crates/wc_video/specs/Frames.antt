-- Video frames as contracts see them (W3C WebCodecs, VideoFrame).
use Rattle.std.specs.Prelude.{◌==◌, ◌||◌, ◌≤◌, ◌≡◌, nat_lt, ℕ, Bool, true, false, List, length, take, Option, Some, None, IfSome, is_some, option_map}
use Rattle.wc_base.specs.declared.media.PictureShape.{PictureShape}
use Rattle.wc_base.specs.declared.who.By.{By}
use Rattle.wc_base.specs.declared.error.DomError.{DomError}
use Rattle.wc_base.specs.declared.error.DomError.TheVariants as dom
use Rattle.picture_planes.specs.Planes.{picture_size}
use Rattle.wc_pool.specs.declared.reference.MediaRef.{MediaRef}
use Rattle.wc_pool.specs.declared.entry.PoolEntry.{PoolEntry}
use Rattle.wc_pool.specs.declared.entry.MediaFault.{MediaFault}
use Rattle.wc_pool.specs.declared.entry.MediaFault.TheVariants as fault
use Rattle.wc_pool.specs.Pools.{made_by, cloned_by, ended_by, KeepsAll, KeepsOthers, IsCloneOf}

-- its shape, and the reference that it holds; none where it is detached
pub record Frame : Type 0 where
  pub shape : PictureShape
  pub held : Option MediaRef

-- the frame with so much of its reference
abbrev pub held_as : (MediaRef → MediaRef) → Frame → Frame
held_as part f = record { shape = f.shape; held = option_map part f.held }

-- an init that is refused: no row, no column, or fewer bytes than the planes need
abbrev pub is_invalid : PictureShape → ℕ → Bool
is_invalid shape count = (shape.width == 0) || (shape.height == 0) || nat_lt count (picture_size shape)

-- the reference has the bytes that the planes need
abbrev pub IsEnough : PictureShape → Option MediaRef → Type 0
IsEnough shape held = IfSome held (λ r. picture_size shape ≤ length r.bytes)

-- the bytes that the planes need; none of one that is detached
abbrev pub content_of : Frame → Option (List ℕ)
content_of f = option_map (λ r. take (picture_size f.shape) r.bytes) f.held

-- the reference that is held, if one is, is of a pool
abbrev pub IsHeldOf : (MediaRef → Type 0) → Frame → Type 0
IsHeldOf is_of f = IfSome f.held is_of

-- a pool's call made a reference of these bytes, and the frame holds it
pub record IsMadeBy (adds : PoolEntry → Type 0) (cause : By) (shape : PictureShape) (bytes : List ℕ) (f : Frame) : Type 0 where
  pub reference : MediaRef
  pub is : f ≡ record { shape = shape; held = Some reference }
  pub added : adds (made_by cause reference)
  pub same_bytes : reference.bytes ≡ bytes

-- a reference was taken over as it is, by an init that is valid
pub record IsAdopted (invalid : Bool) (shape : PictureShape) (held : MediaRef) (f : Frame) : Type 0 where
  pub valid : invalid ≡ false
  pub is : f ≡ record { shape = shape; held = Some held }

-- it came back, since the init is invalid
pub record IsRefused (invalid : Bool) (held : MediaRef) (e : DomError × MediaRef) : Type 0 where
  pub error : e.0 ≡ dom.TypeErr
  pub same : e.1 ≡ held
  pub was : invalid ≡ true

-- a pool's call cloned the reference of an open frame, and another frame of the same shape holds the clone
pub record IsCloneBy (adds : PoolEntry → Type 0) (cause : By) (old f : Frame) : Type 0 where
  pub reference : MediaRef
  pub was : MediaRef
  pub held : old.held ≡ Some was
  pub is : f ≡ record { shape = old.shape; held = Some reference }
  pub added : adds (cloned_by cause reference)
  pub clone : IsCloneOf was reference

-- why a frame was not made: its init is invalid, and nothing has changed; or it is valid, and memory was wanted
abbrev pub IsInitFault : Bool → Type 0 → Type 0 → MediaFault → Type 0
IsInitFault invalid same stays (fault.Dom e) = (e ≡ dom.TypeErr) × (invalid ≡ true) × same
IsInitFault invalid same stays fault.NoMemory = (invalid ≡ false) × stays

-- why a frame was not cloned: it is detached, and nothing has changed; or it is open, and memory was wanted
abbrev pub IsCloneFault : Frame → Type 0 → Type 0 → MediaFault → Type 0
IsCloneFault f same stays (fault.Dom e) = (e ≡ dom.InvalidState) × (f.held ≡ None) × same
IsCloneFault f same stays fault.NoMemory = (is_some f.held ≡ true) × stays

-- the reference of a frame that is closed ends; nothing is done where it is detached
abbrev pub Closes : (PoolEntry → Type 0) → Type 0 → By → Option MediaRef → Bool → Type 0
Closes adds same cause None last = same × (last ≡ false)
Closes adds same cause (Some r) last = adds (ended_by cause r last)

-- all other references stay those of their pool
abbrev pub KeepsButHeld : Option MediaRef → (MediaRef → Type 0) → (MediaRef → Type 0) → Type 0
KeepsButHeld None old new = KeepsAll old new
KeepsButHeld (Some r) old new = KeepsOthers r.number old new
