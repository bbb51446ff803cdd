-- What variables hold of audio data, of frames, of buffers and of chunks, as their callers' steps say it, whatever the pool's history
-- is.
use Rattle.std.specs.Prelude.{ℕ, zero, suc, ◌≡◌, ◌==◌, ◌⊎◌, List, [], take, slice_get, Option, Some, None, option_map, option_and_then, if◌then◌else◌}
use Rattle.wc_chunk.specs.declared.chunk.Chunk.{Chunk}
use Rattle.wc_pool.specs.declared.entry.PoolEntry.{PoolEntry}
use Rattle.picture_planes.specs.Planes.{picture_size}
use Rattle.codec_definitions.specs.declared.unit.Unit as output
use Rattle.codec_definitions.specs.declared.unit.Unit.TheVariants as unit
use Rattle.codec_model.specs.declared.entry.MediaShape.TheVariants as media_shape
use Rattle.wc_audio.specs.Sound.{needed}
use Rattle.script_types.specs.declared.steps.InitShape.{InitShape}
use Rattle.script_types.specs.declared.steps.InitShape.TheVariants as init_shape
use Rattle.script_types.specs.declared.steps.InitData.{InitData}
use Rattle.script_types.specs.declared.steps.InitData.TheVariants as init_data
use Rattle.script_types.specs.declared.steps.SoundInit.{SoundInit}
use Rattle.script_types.specs.declared.steps.PictureInit.{PictureInit}
use Rattle.script_types.specs.declared.steps.VariableKind.{VariableKind}
use Rattle.script_types.specs.declared.steps.MediaStep.{MediaStep}
use Rattle.script_types.specs.declared.steps.MediaStep.TheVariants as media
use Rattle.script_types.specs.declared.steps.Step.{Step}
use Rattle.script_types.specs.declared.steps.Step.TheVariants as step
use Rattle.media_variables.specs.Variables.{Reference, Shape, SoundOf, PictureOf, ChunkOf, BufferOf, Medium, Taken, Received, Brought, Lendable, bytes_in, content_in, medium_at, lendable_at, chunk_in_medium}
use Rattle.media_accounts.specs.Accounts.{variables_in}
use Rattle.codec_model.specs.declared.entry.Content.{Content}

-- What a variable is, whatever became of its reference: audio data or a frame with these bytes, or a buffer with these.
pub data Kept : Type 0 where
  MediumOf : Content → Kept
  BytesOf : List ℕ → Kept

abbrev pub medium_kept : Kept → Option Content
medium_kept (MediumOf content) = Some content
medium_kept (BytesOf bytes) = None

abbrev pub bytes_kept : Option Kept → List ℕ
bytes_kept (Some (BytesOf bytes)) = bytes
bytes_kept _ = []

abbrev pub content_of_unit : output.Unit → Option Content
content_of_unit (unit.Sound s) = Some (record { shape = media_shape.Sound s.shape; bytes = take (needed s.shape) s.bytes })
content_of_unit (unit.Image p) = Some (record { shape = media_shape.Image p.shape; bytes = take (picture_size p.shape) p.bytes })
content_of_unit (unit.Coded chunk config) = None

abbrev pub chunk_of_unit : output.Unit → Option Chunk
chunk_of_unit (unit.Coded chunk config) = Some chunk
chunk_of_unit _ = None

abbrev pub content_of_sound : SoundInit → Content
content_of_sound i = record { shape = media_shape.Sound i.shape; bytes = take (needed i.shape) i.content }

abbrev pub content_of_picture : PictureInit → Content
content_of_picture i = record { shape = media_shape.Image i.shape; bytes = take (picture_size i.shape) i.content }

-- what an init makes of these bytes
abbrev pub content_of_init : InitShape → List ℕ → Option Content
content_of_init (init_shape.Chunk key timestamp duration) bytes = None
content_of_init (init_shape.Sound shape) bytes = Some (record { shape = media_shape.Sound shape; bytes = take (needed shape) bytes })
content_of_init (init_shape.Picture shape) bytes = Some (record { shape = media_shape.Image shape; bytes = take (picture_size shape) bytes })

abbrev pub chunk_of_init : InitShape → List ℕ → Option Chunk
chunk_of_init (init_shape.Chunk key timestamp duration) bytes = Some (record { key = key; timestamp = timestamp; duration = duration; bytes = bytes })
chunk_of_init _ bytes = None

-- the bytes of an init: those of a buffer are those that its own step gave it
abbrev pub bytes_of_init : (ℕ → Option Kept) → InitData → List ℕ
bytes_of_init earlier (init_data.Hex bytes) = bytes
bytes_of_init earlier (init_data.Buffer v) = bytes_kept (earlier v.step)

-- what is given to a step from elsewhere: the output that it takes, and the medium that it receives
pub record From : Type 0 where
  pub taken : Option output.Unit
  pub received : Option Content

-- What a step gives its variable, where `earlier` has what its caller's earlier steps gave: that of its init, of what it clones or hands
-- on, the output's, or that which was posted.
abbrev pub kept_by : (ℕ → Option Kept) → From → Step → Option Kept
kept_by earlier from (step.Media (media.Audio bind init)) = option_map (λ i. MediumOf (content_of_sound i)) init
kept_by earlier from (step.Media (media.Frame bind init)) = option_map (λ i. MediumOf (content_of_picture i)) init
kept_by earlier from (step.Media (media.Buffer bind bytes)) = Some (BytesOf bytes)
kept_by earlier from (step.Media (media.Buffered bind i)) = option_map MediumOf (content_of_init i.shape (bytes_of_init earlier i.content))
kept_by earlier from (step.Media (media.Clone of bind)) = earlier of.step
kept_by earlier from (step.Media (media.Transfer of bind)) = earlier of.step
kept_by earlier from (step.Media (media.Take on bind kind)) = option_map MediumOf (option_and_then content_of_unit from.taken)
kept_by earlier from (step.Media (media.Receive port bind kind)) = option_map MediumOf from.received
kept_by earlier from _ = None

-- What the variable is that a step with this number defines, of the first n steps of its caller. `from` has what is given to each step.
abbrev pub kept_before : List Step → (ℕ → From) → ℕ → ℕ → Option Kept
kept_before steps from zero j = None
kept_before steps from (suc n) j =
    if j == n then option_and_then (kept_by (kept_before steps from n) (from n)) (slice_get steps n) else kept_before steps from n j

-- the same of audio data and frames alone
abbrev pub content_before : List Step → (ℕ → From) → ℕ → ℕ → Option Content
content_before steps from n j = option_and_then medium_kept (kept_before steps from n j)

-- the chunk that the init of a step makes, where these are its caller's variables before it
abbrev pub chunk_made : List (Option Medium) → Step → Option Chunk
chunk_made vs (step.Media (media.Buffered bind i)) = chunk_of_init i.shape (bytes_in i.content vs)
chunk_made vs _ = None

-- A medium is this: audio data, a frame or a buffer that is open, or a chunk that one of these gave.
abbrev pub IsOf : Option Kept → (Chunk → Type 0) → Shape → Option Reference → Type 0
IsOf kept gave (SoundOf shape) None = Unit {0}
IsOf kept gave (SoundOf shape) (Some r) = kept ≡ Some (MediumOf (record { shape = media_shape.Sound shape; bytes = take (needed shape) r.bytes }))
IsOf kept gave (PictureOf shape) None = Unit {0}
IsOf kept gave (PictureOf shape) (Some r) = kept ≡ Some (MediumOf (record { shape = media_shape.Image shape; bytes = take (picture_size shape) r.bytes }))
IsOf kept gave BufferOf None = Unit {0}
IsOf kept gave BufferOf (Some r) = kept ≡ Some (BytesOf r.bytes)
IsOf kept gave (ChunkOf chunk) held = (held ≡ None) × gave chunk

abbrev pub IsKept : Option Kept → Medium → Type 0
IsKept kept m = IsOf kept (λ chunk. ⊥) m.shape m.held

-- `from` has what is brought to a caller's steps: the outputs, and the media that it receives, which are open audio data or frames
pub record IsFrom (steps : ℕ → List Step) (brought : ℕ → ℕ → MediaStep → Brought) (c : ℕ) (from : ℕ → From) : Type 0 where
  pub taken : (j on : ℕ) (bind : List ℕ) (kind : VariableKind) (t : Taken) →
      slice_get (steps c) j ≡ Some (step.Media (media.Take on bind kind)) → (brought c j (media.Take on bind kind)).taken ≡ Some t → (from j).taken ≡ Some t.unit
  pub received : (j port : ℕ) (bind : List ℕ) (kind : VariableKind) (p : Received) →
      slice_get (steps c) j ≡ Some (step.Media (media.Receive port bind kind)) → (brought c j (media.Receive port bind kind)).received ≡ Some p → IsKept (option_map MediumOf (from j).received) p.medium

-- audio data or a frame that is open is what its steps gave
abbrev pub ContentsAreKept : Type 0
ContentsAreKept = (steps : ℕ → List Step) (brought : ℕ → ℕ → MediaStep → Brought) (pool : List PoolEntry) (c : ℕ) (from : ℕ → From) (n j : ℕ) (x : Lendable) (r : Reference) →
    IsFrom steps brought c from → lendable_at (variables_in steps brought pool c n) j ≡ Some x → x.held ≡ Some r →
    content_before (steps c) from n j ≡ Some (record { shape = x.shape; bytes = content_in x.shape r.bytes })

-- a chunk that a variable holds was taken by the variable's step, or made by its init
abbrev pub ChunksAreGiven : Type 0
ChunksAreGiven = (steps : ℕ → List Step) (brought : ℕ → ℕ → MediaStep → Brought) (pool : List PoolEntry) (c : ℕ) (from : ℕ → From) (n j : ℕ) (chunk : Chunk) →
    IsFrom steps brought c from → option_and_then chunk_in_medium (medium_at (variables_in steps brought pool c n) j) ≡ Some chunk →
    (option_and_then chunk_of_unit (from j).taken ≡ Some chunk) ⊎ (option_and_then (chunk_made (variables_in steps brought pool c j)) (slice_get (steps c) j) ≡ Some chunk)
