-- What a step on media answers and gives its variable, apart from all variables; and what it does to a pool, whichever that is.
use Rattle.std.specs.Prelude.{ℕ, ◌≡◌, ◌≢◌, ◌⊎◌, Bool, true, false, List, [], ◌∷◌, length, take, Option, Some, None, IfSome, option_map, if◌then◌else◌}
use Rattle.wc_base.specs.declared.error.DomError.TheVariants as dom
use Rattle.wc_base.specs.declared.who.By.{By}
use Rattle.wc_base.specs.declared.who.Who.{Who}
use Rattle.codec_definitions.specs.declared.unit.Unit as output
use Rattle.codec_definitions.specs.declared.unit.Unit.TheVariants as unit
use Rattle.codec_model.specs.declared.entry.HeldMedium.{HeldMedium}
use Rattle.codec_model.specs.declared.entry.Handed.TheVariants as handed
use Rattle.picture_planes.specs.Planes.{picture_size}
use Rattle.wc_pool.specs.declared.entry.PoolEntry.{PoolEntry}
use Rattle.wc_pool.specs.declared.entry.PoolOp.{PoolOp}
use Rattle.wc_pool.specs.declared.entry.PoolOp.TheVariants as op
use Rattle.wc_pool.specs.declared.reference.MediaRef.{MediaRef}
use Rattle.wc_pool.specs.Pools.{cloned_by, KeepsAll}
use Rattle.wc_audio.specs.Sound as sound
use Rattle.wc_video.specs.Frames as frames
use Rattle.script_types.specs.declared.steps.BufferedInit.{BufferedInit}
use Rattle.script_types.specs.declared.steps.InitShape.{InitShape}
use Rattle.script_types.specs.declared.steps.InitShape.TheVariants as init_shape
use Rattle.script_types.specs.declared.steps.SoundInit.{SoundInit}
use Rattle.script_types.specs.declared.steps.PictureInit.{PictureInit}
use Rattle.report_text.specs.declared.result.StepResult.{StepResult}
use Rattle.report_text.specs.declared.result.StepResult.TheVariants as result
use Rattle.media_variables.specs.declared.given.Given.{Given}
use Rattle.media_variables.specs.Variables.{Reference, Shape, SoundOf, PictureOf, ChunkOf, BufferOf, Medium, Numbers, Came, Lendable, buffer_at, bytes_in, shape_over, refused, without, handed_of, entry_of, with_medium, chunk_medium}
use Rattle.media_variables.specs.Held.{WholeMedium, AreOnce, pair_of, seen}

-- an answer, what is given to the step's variable, and what is done to the pool
pub record Done : Type 0 where
  pub answer : StepResult
  pub medium : Option Medium
  pub does : Option PoolOp

abbrev pub gives_nothing : StepResult → Done
gives_nothing r = record { answer = r; medium = None; does = None }

abbrev pub gives : Medium → Option PoolOp → Done
gives m does = record { answer = result.Local None; medium = Some m; does = does }

abbrev pub made_done : Numbers → Shape → List ℕ → Done
made_done n shape bytes =
    gives (record { shape = shape; held = Some (record { resource = n.resource; number = n.reference; bytes = bytes }) }) (Some (op.Make n.resource n.reference))

-- the same, with another answer
abbrev pub with_answer : StepResult → Done → Done
with_answer r d = record d { answer = r }

abbrev pub audio_done : Option SoundInit → Numbers → Done
audio_done None n = gives_nothing (refused dom.TypeErr)
audio_done (Some i) n =
    if sound.is_invalid i.shape (length i.content) then gives_nothing (refused dom.TypeErr)
    else made_done n (SoundOf i.shape) (take (sound.needed i.shape) i.content)

abbrev pub frame_done : Option PictureInit → Numbers → Done
frame_done None n = gives_nothing (refused dom.TypeErr)
frame_done (Some i) n =
    if frames.is_invalid i.shape (length i.content) then gives_nothing (refused dom.TypeErr)
    else made_done n (PictureOf i.shape) (take (picture_size i.shape) i.content)

abbrev pub buffer_done : List ℕ → Numbers → Done
buffer_done bytes n = made_done n BufferOf bytes

-- what an init makes, of these bytes
abbrev pub init_done : InitShape → List ℕ → Numbers → Done
init_done (init_shape.Chunk key timestamp duration) bytes n =
    gives (record { shape = ChunkOf (record { key = key; timestamp = timestamp; duration = duration; bytes = bytes }); held = None }) None
init_done (init_shape.Sound shape) bytes n = made_done n (SoundOf shape) (take (sound.needed shape) bytes)
init_done (init_shape.Picture shape) bytes n = made_done n (PictureOf shape) (take (picture_size shape) bytes)

-- or over the reference of a buffer
abbrev pub adopted_done : InitShape → Option Reference → Done
adopted_done shape held = gives (record { shape = shape_over shape; held = held }) None

abbrev pub made_or_adopted : BufferedInit → Option ℕ → List (Option Medium) → Numbers → Done
made_or_adopted i None vs n = init_done i.shape (bytes_in i.content vs) n
made_or_adopted i (Some k) vs n = adopted_done i.shape (buffer_at vs k)

-- the variables without the buffer that is taken over
abbrev pub before_given : Option ℕ → List (Option Medium) → List (Option Medium)
before_given None vs = vs
before_given (Some k) vs = without k vs

-- an output that is taken, with this answer
abbrev pub taken_done : StepResult → output.Unit → Numbers → Done
taken_done answer (unit.Sound s) n = with_answer answer (made_done n (SoundOf s.shape) s.bytes)
taken_done answer (unit.Image p) n = with_answer answer (made_done n (PictureOf p.shape) p.bytes)
taken_done answer (unit.Coded chunk config) n = record { answer = answer; medium = Some (chunk_medium chunk); does = None }

abbrev pub cloned_done : Shape → Option Reference → Numbers → Done
cloned_done shape None n = gives_nothing (refused dom.InvalidState)
cloned_done shape (Some r) n = gives (record { shape = shape; held = Some (record r { number = n.reference }) }) (Some (op.Clone r.resource n.reference))

abbrev pub clone_done : Option Medium → Numbers → Done
clone_done None n = gives_nothing result.Absent
clone_done (Some m) n = cloned_done m.shape m.held n

abbrev pub transferred_done : Medium → Option Reference → Done
transferred_done m None = gives_nothing (refused dom.DataClone)
transferred_done m (Some r) = gives m None

abbrev pub transfer_done : Option Medium → Done
transfer_done None = gives_nothing result.Absent
transfer_done (Some m) = transferred_done m m.held

-- the answer of a close, and what it does to the pool
abbrev pub closed_answer : {X : Type 0} → Option X → StepResult
closed_answer None = result.Absent
closed_answer (Some m) = result.Local None

abbrev pub closed_op : Option Reference → Option PoolOp
closed_op None = None
closed_op (Some r) = Some (op.End r.resource r.number false)

-- the variable of the step with this number holds what is given, if something is
abbrev pub given_to : {X : Type 0} → ℕ → Option X → List (Option X) → List (Option X)
given_to j None vs = vs
given_to j (Some m) vs = with_medium j m vs

-- ---- over any pool

-- A step does this to a pool: it makes the one entry of it, where an end says of its resource what the pool knows; or none,
-- and the pool is the same.
abbrev pub Does : (PoolEntry → Type 0) → Type 0 → Who → Option PoolOp → Type 0
Does adds same who None = same
Does adds same who (Some o) = (last : Bool) × adds (entry_of who last o)

-- The same of more entries, one after another: `adds` relates two pools where a call made one entry.
abbrev pub DoesAll : {P : Type 0} → (P → P → PoolEntry → Type 0) → Who → P → P → List PoolOp → Type 0
DoesAll adds who old new [] = new ≡ old
DoesAll {P} adds who old new (o ∷ os) = (last : Bool) × ((between : P) × (adds old between (entry_of who last o) × DoesAll adds who between new os))

-- whatever entry a call makes, the pool keeps each reference
abbrev pub Lasts : {P : Type 0} → (P → P → PoolEntry → Type 0) → (P → MediaRef → Type 0) → Type 0
Lasts {P} adds is_of = (old new : P) (e : PoolEntry) → adds old new e → KeepsAll (is_of old) (is_of new)

-- a reference that a pool makes next has another number than each that is of it
abbrev pub MakesNew : {P : Type 0} → (P → P → PoolEntry → Type 0) → (P → MediaRef → Type 0) → P → Type 0
MakesNew {P} adds is_of old = (new : P) (cause : By) (r f : ℕ) → adds old new (record { by = cause; op = op.Make r f }) →
    (q : MediaRef) → is_of old q → q.number ≢ f

-- The references of these variables stay of the pool where some of them end: no two are one, or the pool keeps each.
abbrev pub MayEnd : {P : Type 0} → (P → P → PoolEntry → Type 0) → (P → MediaRef → Type 0) → List (Option Medium) → Type 0
MayEnd adds is_of vs = AreOnce vs ⊎ Lasts adds is_of

-- and so they do where one more was made before
abbrev pub MayMakeAndEnd : {P : Type 0} → (P → P → PoolEntry → Type 0) → (P → MediaRef → Type 0) → P → List (Option Medium) → Type 0
MayMakeAndEnd adds is_of pool vs = (AreOnce vs × MakesNew adds is_of pool) ⊎ Lasts adds is_of

-- A step answers, gives and does this, with some numbers for what it makes.
pub record Gives (adds : PoolEntry → Type 0) (same : Type 0) (who : Who) (done : Numbers → Done) (g : Given) : Type 0 where
  pub numbers : Numbers
  pub answered : g.answer ≡ (done numbers).answer
  pub medium : option_map seen g.medium ≡ (done numbers).medium
  pub does : Does adds same who (done numbers).does

-- what is given is of the pool
abbrev pub IsGivenOf : (MediaRef → Type 0) → Given → Type 0
IsGivenOf is_of g = IfSome g.medium (λ m. IfSome m.held is_of)

-- what a transfer gives, with all of its reference
abbrev pub transferred : WholeMedium → Option MediaRef → Given
transferred m None = record { answer = refused dom.DataClone; medium = None }
transferred m (Some r) = record { answer = result.Local None; medium = Some m }

abbrev pub transferred_at : Option WholeMedium → Given
transferred_at None = record { answer = result.Absent; medium = None }
transferred_at (Some m) = transferred m m.held

-- a step on one caller's variables came to this; one that is the codec's changes nothing
abbrev pub CameBy : (List PoolOp → Type 0) → List (Option Medium) → List (Option Medium) → Option Came → Option StepResult → Type 0
CameBy did vs after None answer = (answer ≡ None) × did [] × (after ≡ vs)
CameBy did vs after (Some c) answer = (answer ≡ Some c.answer) × did c.does × (after ≡ c.variables)

-- A step on one caller's variables came to what it comes to with some numbers, which are those in its first entry. `did` says what was
-- done to the pool.
pub record Acts (did : List PoolOp → Type 0) (came : Numbers → Option Came) (vs after : List (Option Medium)) (answer : Option StepResult) : Type 0 where
  pub numbers : Numbers
  pub came_by : CameBy did vs after (came numbers) answer

-- An open medium, with one reference more to its resource: what an encode that is accepted is handed.
pub record Lends (adds : PoolEntry → Type 0) (cause : By) (medium : Option Lendable) (x : HeldMedium × MediaRef) : Type 0 where
  pub handed : IfSome medium (λ m. handed_of x.1.number true m ≡ handed.Cloned x.0)
  pub pair : x.0.pair ≡ pair_of x.1
  pub added : adds (cloned_by cause x.1)
