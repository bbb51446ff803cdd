-- How the crate's own media are seen, and what holds of the references that variables hold.
use Rattle.std.specs.Prelude.{ℕ, ◌≡◌, ◌≢◌, ◌<◌, ◌≤◌, true, List, [], ◌∷◌, ◌++◌, ◌⊎◌, length, map, slice_get, slice_set, Option, Some, None, IfSome, option_map, option_and_then}
use Rattle.wc_base.specs.declared.who.By.{By}
use Rattle.wc_base.specs.declared.who.Who.{Who}
use Rattle.codec_model.specs.Held.{in_order}
use Rattle.codec_model.specs.declared.entry.Pair.{Pair}
use Rattle.codec_model.specs.declared.entry.HeldMedium.{HeldMedium}
use Rattle.codec_model.specs.declared.entry.MediaShape.TheVariants as media_shape
use Rattle.codec_model.specs.declared.entry.Handed.TheVariants as handed
use Rattle.codec_definitions.specs.declared.unit.Unit as output
use Rattle.codec_definitions.specs.declared.unit.Unit.TheVariants as unit
use Rattle.picture_planes.specs.Planes.{picture_size}
use Rattle.wc_audio.specs.Sound.{Sound, needed}
use Rattle.wc_video.specs.Frames.{Frame}
use Rattle.wc_pool.specs.declared.entry.PoolEntry.{PoolEntry}
use Rattle.wc_pool.specs.declared.entry.PoolOp.TheVariants as op
use Rattle.wc_pool.specs.declared.reference.MediaRef.{MediaRef}
use Rattle.wc_pool.specs.Bag.{resource_of, references_made, is_held, is_legal_from, is_legal_pool}
use Rattle.wc_pool.specs.Pools.{KeepsAll}
use Rattle.script_types.specs.declared.steps.MediaStep.{MediaStep}
use Rattle.media_variables.specs.declared.medium.Kind.{Kind}
use Rattle.media_variables.specs.declared.medium.Kind.TheVariants as kind
use Rattle.media_variables.specs.declared.lending.MediumFound.{MediumFound}
use Rattle.media_variables.specs.declared.lending.MediumFound.TheVariants as found
use Rattle.media_variables.specs.Variables.{Reference, Shape, SoundOf, PictureOf, ChunkOf, BufferOf, Medium, Media, Came, Received, Brought, Lendable, next_numbers, lendable_in, handed_of, medium_at, variables_of, media_came, entries_of, is_last_of}

-- without the key and the token of a pool
abbrev pub reference_of : MediaRef → Reference
reference_of r = record { resource = r.resource; number = r.number; bytes = r.bytes }

-- a medium with all of its reference
pub record WholeMedium : Type 0 where
  pub shape : Shape
  pub held : Option MediaRef

abbrev pub whole_of : Kind → WholeMedium
whole_of (kind.Audio s) = record { shape = SoundOf s.shape; held = s.held }
whole_of (kind.Frame f) = record { shape = PictureOf f.shape; held = f.held }
whole_of (kind.Chunk c) = record { shape = ChunkOf c; held = None }
whole_of (kind.Buffer held) = record { shape = BufferOf; held = held }

-- as steps see it
abbrev pub seen : WholeMedium → Medium
seen m = record { shape = m.shape; held = option_map reference_of m.held }

-- and all variables of a caller
abbrev pub seen_in : List (Option WholeMedium) → List (Option Medium)
seen_in vs = map (λ v. option_map seen v) vs

-- all callers' variables, and the history of their pool
abbrev pub media_of : List (List (Option WholeMedium)) → List PoolEntry → Media
media_of callers history = record { variables = map seen_in callers; pool = history }

abbrev pub without_reference : WholeMedium → WholeMedium
without_reference m = record m { held = None }

-- the whole reference that a variable holds
abbrev pub whole_held : Option WholeMedium → Option MediaRef
whole_held v = option_and_then (λ m. m.held) v

-- each reference that one caller's variables hold is of a pool
pub record AreOf (is_of : MediaRef → Type 0) (vs : List (Option WholeMedium)) : Type 0 where
  pub each : (j : ℕ) → IfSome (whole_held (medium_at vs j)) is_of

-- the reference that a medium holds, and that a variable does
abbrev pub held_by : Option Medium → Option Reference
held_by v = option_and_then (λ m. m.held) v

abbrev pub reference_at : List (List (Option Medium)) → ℕ → ℕ → Option Reference
reference_at callers k j = held_by (medium_at (variables_of k callers) j)

-- a reference is live in a pool's history
abbrev pub IsLiveIn : List PoolEntry → Reference → Type 0
IsLiveIn pool r = resource_of r.number pool ≡ Some r.resource

-- no two of one caller's variables hold a reference of one number
pub record AreOnce (vs : List (Option Medium)) : Type 0 where
  pub once : (i j : ℕ) (r q : Reference) → held_by (medium_at vs i) ≡ Some r → held_by (medium_at vs j) ≡ Some q → r.number ≡ q.number → i ≡ j

-- What is held after a step is of the pool, where no two variables held one reference before it, or where the pool keeps each
-- that it had.
abbrev pub StayOf : (MediaRef → Type 0) → (MediaRef → Type 0) → List (Option WholeMedium) → List (Option WholeMedium) → Type 0
StayOf was now vs after = (AreOnce (seen_in vs) ⊎ KeepsAll was now) → AreOf now after

-- each reference that a variable holds is live, and no other variable holds it
pub record AreHeld (pool : List PoolEntry) (callers : List (List (Option Medium))) : Type 0 where
  pub live : (k j : ℕ) (r : Reference) → reference_at callers k j ≡ Some r → IsLiveIn pool r
  pub apart : (k j l i : ℕ) (r s : Reference) → reference_at callers k j ≡ Some r → reference_at callers l i ≡ Some s →
      r.number ≡ s.number → (k ≡ l) × (j ≡ i)

-- no variable holds a reference of this number
pub record IsFree (callers : List (List (Option Medium))) (number : ℕ) : Type 0 where
  pub none : (k j : ℕ) (r : Reference) → reference_at callers k j ≡ Some r → r.number ≡ number → ⊥

-- what a step receives holds no reference, or one that is live and that no variable holds
abbrev pub MayReceive : List PoolEntry → List (List (Option Medium)) → Option Received → Type 0
MayReceive pool callers o =
    IfSome o (λ p. IfSome p.medium.held (λ r. IsLiveIn pool r × IsFree callers r.number))

-- ---- references that codecs hold

abbrev pub pair_of : MediaRef → Pair
pair_of r = record { resource = r.resource; reference = r.number }

-- each of these references is live, stands once among them, and no variable holds it
pub record AreApart (pool : List PoolEntry) (callers : List (List (Option Medium))) (ps : List Pair) : Type 0 where
  pub lives : (i : ℕ) (p : Pair) → slice_get ps i ≡ Some p → resource_of p.reference pool ≡ Some p.resource
  pub once : (i j : ℕ) (p q : Pair) → slice_get ps i ≡ Some p → slice_get ps j ≡ Some q → p.reference ≡ q.reference → i ≡ j
  pub elsewhere : (i k j : ℕ) (p : Pair) (r : Reference) → slice_get ps i ≡ Some p → reference_at callers k j ≡ Some r → p.reference ≢ r.number

-- the reference of a medium that is in no variable
abbrev pub pairs_in : Option WholeMedium → List Pair
pairs_in m = map pair_of (in_order (whole_held m))

-- the ends of these references by one cause, in order, behind a pool's history
abbrev pub ends_behind : By → List PoolEntry → List Pair → List PoolEntry
ends_behind cause pool [] = []
ends_behind cause pool (p ∷ ps) =
    let e : PoolEntry = record { by = cause; op = op.End p.resource p.reference (is_last_of cause p.resource p.reference pool) } in
    e ∷ ends_behind cause (pool ++ e ∷ []) ps

-- the clones of these references by one cause
abbrev pub clones_of : By → List Pair → List PoolEntry
clones_of cause ps = map (λ p. record { by = cause; op = op.Clone p.resource p.reference }) ps

-- ---- what a codec is lent

-- audio data and a frame, as an encode is given them
abbrev pub lendable_sound : Sound → Lendable
lendable_sound s = record { shape = media_shape.Sound s.shape; held = option_map reference_of s.held }

abbrev pub lendable_frame : Frame → Lendable
lendable_frame f = record { shape = media_shape.Image f.shape; held = option_map reference_of f.held }

abbrev pub lendable_of_variable : Option WholeMedium → Option Lendable
lendable_of_variable v = option_and_then (λ m. lendable_in (seen m)) v

abbrev pub found_by : Option Reference → MediumFound
found_by None = found.Detached
found_by (Some r) = found.Open

-- whether a variable holds audio data or a frame, and whether that is open
abbrev pub medium_found : Option Lendable → MediumFound
medium_found None = found.Absent
medium_found (Some m) = found_by m.held

-- An open medium, with one reference more to its resource, which was held: what an encode that is accepted is handed.
pub record IsLent (cause : By) (pool new : List PoolEntry) (medium : Option Lendable) (x : HeldMedium × MediaRef) : Type 0 where
  pub handed : IfSome medium (λ m. handed_of (references_made pool) true m ≡ handed.Cloned x.0)
  pub pair : x.0.pair ≡ pair_of x.1
  pub history : new ≡ pool ++ clones_of cause (pair_of x.1 ∷ [])
  pub may : is_held x.1.resource pool ≡ true
  pub next : x.1.number ≡ references_made pool

-- ---- steps of callers

-- whatever a step on media comes to, the references that variables hold stay live and apart
abbrev pub StayHeld : Type 0
StayHeld = (pool : List PoolEntry) (who : Who) (callers : List (List (Option Medium))) (b : Brought) (x : MediaStep) (y : Came) →
    is_legal_pool pool ≡ true → who.caller < length callers → AreHeld pool callers → MayReceive pool callers b.received → media_came (next_numbers pool) who b x (variables_of who.caller callers) ≡ Some y →
    AreHeld (pool ++ entries_of pool who y.does) (slice_set callers who.caller y.variables)

-- and what it does to the pool is legal there, one after another
abbrev pub DoLegally : Type 0
DoLegally = (pool : List PoolEntry) (who : Who) (callers : List (List (Option Medium))) (b : Brought) (x : MediaStep) (y : Came) →
    is_legal_pool pool ≡ true → who.caller < length callers → AreHeld pool callers → media_came (next_numbers pool) who b x (variables_of who.caller callers) ≡ Some y →
    is_legal_from pool (entries_of pool who y.does) ≡ true

-- an output has at least the bytes that its shape needs
abbrev pub IsEnoughUnit : output.Unit → Type 0
IsEnoughUnit (unit.Sound s) = needed s.shape ≤ length s.bytes
IsEnoughUnit (unit.Image p) = picture_size p.shape ≤ length p.bytes
IsEnoughUnit (unit.Coded chunk config) = Unit {0}
