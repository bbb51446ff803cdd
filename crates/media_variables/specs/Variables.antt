-- The media that callers' variables hold, and what each step on them comes to (W3C WebCodecs, AudioData and VideoFrame). A
-- variable whose step was refused is absent, and so is one that is not defined yet (our choice).
use Rattle.std.specs.Prelude.{ℕ, zero, suc, ◌≡◌, ◌++◌, ◌==◌, not, Bool, true, false, List, [], ◌∷◌, length, take, drop, slice_get, slice_set, map, filter, replicate, is_some, Option, Some, None, option_map, option_and_then, unwrap_or, Result, Ok, Err, if◌then◌else◌}
use Rattle.std.specs.List.{list_any}
use Rattle.std.specs.Option.{option_or}
use Rattle.wc_base.specs.declared.error.DomError.{DomError}
use Rattle.wc_base.specs.declared.error.DomError.TheVariants as dom
use Rattle.wc_base.specs.declared.media.SoundShape.{SoundShape}
use Rattle.wc_base.specs.declared.media.PictureShape.{PictureShape}
use Rattle.wc_base.specs.declared.who.Who.{Who}
use Rattle.wc_base.specs.declared.who.By.{By}
use Rattle.wc_base.specs.declared.who.By.TheVariants as by
use Rattle.wc_chunk.specs.declared.chunk.Chunk.{Chunk}
use Rattle.codec_model.specs.declared.entry.MediaShape.{MediaShape}
use Rattle.codec_model.specs.declared.entry.MediaShape.TheVariants as media_shape
use Rattle.codec_model.specs.declared.entry.Handed.{Handed}
use Rattle.codec_model.specs.declared.entry.Handed.TheVariants as handed
use Rattle.codec_definitions.specs.declared.unit.Unit as output
use Rattle.codec_definitions.specs.declared.unit.Unit.TheVariants as unit
use Rattle.wc_chunk.specs.Copied.{copied_count, copied_to}
use Rattle.picture_planes.specs.Planes.{picture_size}
use Rattle.wc_pool.specs.declared.entry.PoolEntry.{PoolEntry}
use Rattle.wc_pool.specs.declared.entry.PoolOp.{PoolOp}
use Rattle.wc_pool.specs.declared.entry.PoolOp.TheVariants as op
use Rattle.wc_pool.specs.declared.reference.MediaRef.{MediaRef}
use Rattle.wc_pool.specs.Bag.{resources_made, references_made, is_held}
use Rattle.array_buffers.specs.Transfers.{may_transfer}
use Rattle.wc_audio.specs.Sound.{Sound, needed, is_invalid}
use Rattle.wc_audio.specs.Copies.{copied_audio, allocation_size}
use Rattle.wc_audio.specs.declared.options.CopyOptions.{CopyOptions}
use Rattle.wc_audio.specs.declared.options.CopyFormat.{CopyFormat}
use Rattle.wc_audio.specs.declared.options.CopyFormat.TheVariants as format
use Rattle.wc_video.specs.Frames.{Frame, content_of}
use Rattle.wc_video.specs.Frames as frames
use Rattle.wc_video.specs.Layouts.{size_of, layouts_of}
use Rattle.wc_video.specs.Copies as video
use Rattle.wc_video.specs.declared.layout.Rect.{Rect}
use Rattle.wc_video.specs.declared.layout.PlaneLayout.{PlaneLayout}
use Rattle.wc_video.specs.declared.layout.PlaneCopy.{PlaneCopy}
use Rattle.wc_video.specs.declared.layout.Layouts.{Layouts}
use Rattle.script_types.specs.declared.options.FormatWord.{FormatWord}
use Rattle.script_types.specs.declared.options.FormatWord.TheVariants as word
use Rattle.script_types.specs.declared.options.AudioOptions.{AudioOptions}
use Rattle.script_types.specs.declared.options.RectWords.{RectWords}
use Rattle.script_types.specs.declared.options.LayoutWords.{LayoutWords}
use Rattle.script_types.specs.declared.options.FrameOptions.{FrameOptions}
use Rattle.script_types.specs.declared.options.Options.{Options}
use Rattle.script_types.specs.declared.options.Options.TheVariants as options
use Rattle.script_types.specs.declared.steps.SoundInit.{SoundInit}
use Rattle.script_types.specs.declared.steps.PictureInit.{PictureInit}
use Rattle.script_types.specs.declared.steps.InitShape.{InitShape}
use Rattle.script_types.specs.declared.steps.InitShape.TheVariants as init_shape
use Rattle.script_types.specs.declared.steps.InitData.{InitData}
use Rattle.script_types.specs.declared.steps.InitData.TheVariants as init_data
use Rattle.script_types.specs.declared.steps.BufferedInit.{BufferedInit}
use Rattle.script_types.specs.declared.steps.Variable.{Variable}
use Rattle.script_types.specs.declared.steps.MediaStep.{MediaStep}
use Rattle.script_types.specs.declared.steps.MediaStep.TheVariants as media
use Rattle.report_text.specs.declared.result.StepResult.{StepResult}
use Rattle.report_text.specs.declared.result.StepResult.TheVariants as result

-- ---- what variables hold

-- a reference that is held, with the bytes of its resource
pub record Reference : Type 0 where
  pub resource : ℕ
  pub number : ℕ
  pub bytes : List ℕ

-- the shape of audio data or of a video frame; a whole chunk, which was taken from an encoder or whose init names buffers; or a
-- buffer, which has its bytes alone
pub data Shape : Type 0 where
  SoundOf : SoundShape → Shape
  PictureOf : PictureShape → Shape
  ChunkOf : Chunk → Shape
  BufferOf : Shape

-- audio data, a video frame or a buffer, with the reference that it holds; none where it is detached. A chunk holds none
pub record Medium : Type 0 where
  pub shape : Shape
  pub held : Option Reference

-- the variables of each caller, by the numbers of the steps that define them, and the history of the pool
pub record Media : Type 0 where
  pub variables : List (List (Option Medium))
  pub pool : List PoolEntry

-- the medium of the variable that the step with this number defines; none where it is absent
abbrev pub medium_at : {X : Type 0} → List (Option X) → ℕ → Option X
medium_at vs j = option_and_then (λ v. v) (slice_get vs j)

-- the variables of the caller with this number
abbrev pub variables_of : ℕ → List (List (Option Medium)) → List (Option Medium)
variables_of k [] = []
variables_of zero (vs ∷ rest) = vs
variables_of (suc k) (vs ∷ rest) = variables_of k rest

-- the variable of the step with this number holds this medium; those before it that hold none are absent
abbrev pub with_medium : {X : Type 0} → ℕ → X → List (Option X) → List (Option X)
with_medium zero m [] = Some m ∷ []
with_medium zero m (v ∷ vs) = Some m ∷ vs
with_medium (suc j) m [] = None ∷ with_medium j m []
with_medium (suc j) m (v ∷ vs) = v ∷ with_medium j m vs

abbrev pub detached : Medium → Medium
detached m = record m { held = None }

-- the variable of the step with this number is changed, if it holds something
abbrev pub changed_at : {X : Type 0} → (X → X) → ℕ → List (Option X) → List (Option X)
changed_at f j [] = []
changed_at f zero (v ∷ vs) = option_map f v ∷ vs
changed_at f (suc j) (v ∷ vs) = v ∷ changed_at f j vs

-- it is detached
abbrev pub without : ℕ → List (Option Medium) → List (Option Medium)
without j vs = changed_at detached j vs

-- ---- what a step comes to

-- the numbers that the resource and the reference have which a step makes: those in the step's own entry
pub record Numbers : Type 0 where
  pub resource : ℕ
  pub reference : ℕ

-- those that are next in a pool
abbrev pub next_numbers : List PoolEntry → Numbers
next_numbers pool = record { resource = resources_made pool; reference = references_made pool }

-- Its answer, the caller's variables after it, and what it does to the pool, in order. Whether an end was the last of its resource
-- is not the step's to know.
pub record Came : Type 0 where
  pub answer : StepResult
  pub variables : List (Option Medium)
  pub does : List PoolOp

abbrev pub only_answers : StepResult → List (Option Medium) → Came
only_answers r vs = record { answer = r; variables = vs; does = [] }

abbrev pub refused : DomError → StepResult
refused e = result.Local (Some e)

-- a new resource with these bytes, and its first reference
abbrev pub makes : Numbers → ℕ → Shape → List ℕ → List (Option Medium) → Came
makes n j shape bytes vs = record {
  answer = result.Local None;
  variables = with_medium j (record { shape = shape; held = Some (record { resource = n.resource; number = n.reference; bytes = bytes }) }) vs;
  does = op.Make n.resource n.reference ∷ [];
}

-- without an init, which breaks a rule of WebIDL, or with an invalid one, nothing is made
abbrev pub audio_came : Numbers → ℕ → Option SoundInit → List (Option Medium) → Came
audio_came n j None vs = only_answers (refused dom.TypeErr) vs
audio_came n j (Some i) vs =
    if is_invalid i.shape (length i.content) then only_answers (refused dom.TypeErr) vs
    else makes n j (SoundOf i.shape) (take (needed i.shape) i.content) vs

abbrev pub frame_came : Numbers → ℕ → Option PictureInit → List (Option Medium) → Came
frame_came n j None vs = only_answers (refused dom.TypeErr) vs
frame_came n j (Some i) vs =
    if frames.is_invalid i.shape (length i.content) then only_answers (refused dom.TypeErr) vs
    else makes n j (PictureOf i.shape) (take (picture_size i.shape) i.content) vs

-- one more reference to the resource that is held
abbrev pub clone_held : Numbers → ℕ → Shape → Option Reference → List (Option Medium) → Came
clone_held n j shape None vs = only_answers (refused dom.InvalidState) vs
clone_held n j shape (Some r) vs = record {
  answer = result.Local None;
  variables = with_medium j (record { shape = shape; held = Some (record r { number = n.reference }) }) vs;
  does = op.Clone r.resource n.reference ∷ [];
}

-- the reference is handed on
abbrev pub transfer_held : ℕ → ℕ → Medium → Option Reference → List (Option Medium) → Came
transfer_held j of m None vs = only_answers (refused dom.DataClone) vs
transfer_held j of m (Some r) vs = only_answers (result.Local None) (with_medium j m (with_medium of (detached m) vs))

-- the reference ends
abbrev pub close_held : ℕ → Medium → Option Reference → List (Option Medium) → Came
close_held of m None vs = only_answers (result.Local None) vs
close_held of m (Some r) vs = record {
  answer = result.Local None;
  variables = with_medium of (detached m) vs;
  does = op.End r.resource r.number false ∷ [];
}

-- ---- array buffers

-- the reference of a buffer; none of one that is detached, and of what is no buffer
abbrev pub buffer_of : Shape → Option Reference → Option Reference
buffer_of BufferOf held = held
buffer_of _ held = None

abbrev pub buffer_in : Medium → Option Reference
buffer_in m = buffer_of m.shape m.held

abbrev pub buffer_at : List (Option Medium) → ℕ → Option Reference
buffer_at vs j = option_and_then buffer_in (medium_at vs j)

abbrev pub is_open_buffer : List (Option Medium) → ℕ → Bool
is_open_buffer vs j = is_some (buffer_at vs j)

abbrev pub bytes_held : Option Reference → List ℕ
bytes_held None = []
bytes_held (Some r) = r.bytes

-- the bytes of an init; a buffer that is detached has none
abbrev pub bytes_in : InitData → List (Option Medium) → List ℕ
bytes_in (init_data.Hex bytes) vs = bytes
bytes_in (init_data.Buffer v) vs = bytes_held (buffer_at vs v.step)

-- an init that is refused: audio data or a frame of no extent, or of more bytes than there are
abbrev pub is_invalid_init : InitShape → ℕ → Bool
is_invalid_init (init_shape.Chunk key timestamp duration) count = false
is_invalid_init (init_shape.Sound shape) count = is_invalid shape count
is_invalid_init (init_shape.Picture shape) count = frames.is_invalid shape count

abbrev pub steps_in : List Variable → List ℕ
steps_in vs = map (λ v. v.step) vs

abbrev pub is_listed : ℕ → List ℕ → Bool
is_listed j js = list_any (λ i. i == j) js

-- the buffer that is the data, where the init lists it
abbrev pub listed_source : List ℕ → InitData → Option ℕ
listed_source js (init_data.Hex bytes) = None
listed_source js (init_data.Buffer v) = if is_listed v.step js then Some v.step else None

-- the buffer whose reference audio data or a frame takes over
abbrev pub adopted_of : InitShape → Option ℕ → Option ℕ
adopted_of (init_shape.Chunk key timestamp duration) source = None
adopted_of _ source = source

-- the same of an init
abbrev pub adopted_in : BufferedInit → Option ℕ
adopted_in i = adopted_of i.shape (listed_source (steps_in i.transfer) i.content)

-- all buffers of a list but this one
abbrev pub all_but : Option ℕ → List ℕ → List ℕ
all_but None js = js
all_but (Some k) js = filter (λ j. not (j == k)) js

-- as many bytes as the shape needs
abbrev pub cut_to : InitShape → List ℕ → List ℕ
cut_to (init_shape.Chunk key timestamp duration) bytes = bytes
cut_to (init_shape.Sound shape) bytes = take (needed shape) bytes
cut_to (init_shape.Picture shape) bytes = take (picture_size shape) bytes

-- with a new resource, or without one where it is a chunk
abbrev pub init_makes : Numbers → ℕ → InitShape → List ℕ → List (Option Medium) → Came
init_makes n j (init_shape.Chunk key timestamp duration) bytes vs = record {
  answer = result.Local None;
  variables = with_medium j (record { shape = ChunkOf (record { key = key; timestamp = timestamp; duration = duration; bytes = bytes }); held = None }) vs;
  does = [];
}
init_makes n j (init_shape.Sound shape) bytes vs = makes n j (SoundOf shape) (take (needed shape) bytes) vs
init_makes n j (init_shape.Picture shape) bytes vs = makes n j (PictureOf shape) (take (picture_size shape) bytes) vs

abbrev pub shape_over : InitShape → Shape
shape_over (init_shape.Sound shape) = SoundOf shape
shape_over (init_shape.Picture shape) = PictureOf shape
shape_over (init_shape.Chunk key timestamp duration) = BufferOf

-- audio data or a frame
abbrev pub takes_buffers : InitShape → Bool
takes_buffers (init_shape.Chunk key timestamp duration) = false
takes_buffers _ = true

-- over the resource of a buffer, which is detached
abbrev pub adopts : ℕ → InitShape → ℕ → List (Option Medium) → Came
adopts j shape k vs = record {
  answer = result.Local None;
  variables = with_medium j (record { shape = shape_over shape; held = buffer_at vs k }) (without k vs);
  does = [];
}

abbrev pub init_made : Numbers → ℕ → BufferedInit → Option ℕ → List (Option Medium) → Came
init_made n j i None vs = init_makes n j i.shape (bytes_in i.content vs) vs
init_made n j i (Some k) vs = adopts j i.shape k vs

abbrev pub end_of : Option Reference → List PoolOp
end_of None = []
end_of (Some r) = op.End r.resource r.number false ∷ []

-- a buffer that is open is detached
abbrev pub gone_at : Option Reference → ℕ → List (Option Medium) → List (Option Medium)
gone_at None j vs = vs
gone_at (Some r) j vs = without j vs

-- and its reference ends, behind what was done
abbrev pub lets_go : ℕ → Came → Came
lets_go j c = record c {
  variables = gone_at (buffer_at c.variables j) j c.variables;
  does = c.does ++ end_of (buffer_at c.variables j);
}

-- one after another
abbrev pub lets_all : List ℕ → Came → Came
lets_all [] c = c
lets_all (j ∷ js) c = lets_all js (lets_go j c)

-- The refusals, in this order: the init is invalid, or the list names a buffer twice or names a detached one. Then the data's
-- buffer is taken over where it is listed, and all others of the list end, in its order.
abbrev pub buffered_came : Numbers → ℕ → BufferedInit → List (Option Medium) → Came
buffered_came n j i vs =
    if is_invalid_init i.shape (length (bytes_in i.content vs)) then only_answers (refused dom.TypeErr) vs
    else if may_transfer (is_open_buffer vs) (steps_in i.transfer) then lets_all (all_but (adopted_in i) (steps_in i.transfer)) (init_made n j i (adopted_in i) vs)
    else only_answers (refused dom.DataClone) vs

-- what is absent makes the step absent
abbrev pub if_there : Option Medium → List (Option Medium) → (Medium → Came) → Came
if_there None vs came = only_answers result.Absent vs
if_there (Some m) vs came = came m

-- ---- copies

abbrev pub zeros : ℕ → List ℕ
zeros size = replicate size 0

-- the definitions of copies see no key of a pool, and no token
abbrev pub media_ref : Reference → MediaRef
media_ref r = record { resource = r.resource; number = r.number; key = 0; bytes = r.bytes; token = None }

abbrev pub sound_of : SoundShape → Option Reference → Sound
sound_of shape held = record { shape = shape; held = option_map media_ref held }

abbrev pub frame_of : PictureShape → Option Reference → Frame
frame_of shape held = record { shape = shape; held = option_map media_ref held }

abbrev pub format_of : FormatWord → CopyFormat
format_of word.U8 = format.U8
format_of word.S16 = format.S16
format_of word.S32 = format.S32
format_of word.U8Planar = format.U8Planar
format_of word.S16Planar = format.S16Planar
format_of word.S32Planar = format.S32Planar
format_of word.F32 = format.F32
format_of word.F32Planar = format.F32Planar

abbrev pub copy_options : AudioOptions → CopyOptions
copy_options o = record { plane = o.plane; offset = o.offset; count = o.count; format = option_map format_of o.format }

abbrev pub rect_of : RectWords → Rect
rect_of r = record { x = r.x; y = r.y; width = r.width; height = r.height }

abbrev pub layout_of : LayoutWords → PlaneLayout
layout_of l = record { offset = l.offset; stride = l.stride }

abbrev pub layouts_in : FrameOptions → Option (List PlaneLayout)
layouts_in o = option_map (λ ls. map layout_of ls) o.layout

-- the whole destination behind the bytes that were written
abbrev pub audio_copied : ℕ → Result (List ℕ) DomError → StepResult
audio_copied size (Err e) = refused e
audio_copied size (Ok bytes) = result.Copied (length bytes) (bytes ++ drop (length bytes) (zeros size))

abbrev pub frame_copied : ℕ → Layouts → Result (List ℕ) DomError → StepResult
frame_copied count layouts (Err e) = refused e
frame_copied count layouts (Ok bytes) = result.CopiedFrame count layouts bytes

-- the planes of a copy of a frame, written
abbrev pub planes_copied : List ℕ → List ℕ → Result (List PlaneCopy) DomError → StepResult
planes_copied bytes old (Err e) = refused e
planes_copied bytes old (Ok cs) = frame_copied (size_of cs) (layouts_of cs) (video.copy_into bytes old (Ok cs))

abbrev pub chunk_copied : List ℕ → Result ℕ DomError → StepResult
chunk_copied to (Err e) = refused e
chunk_copied to (Ok n) = result.Copied n to

abbrev pub size_found : Result ℕ DomError → StepResult
size_found (Err e) = refused e
size_found (Ok n) = result.Size n

abbrev pub copy_chunk : Option Chunk → ℕ → StepResult
copy_chunk None size = result.Absent
copy_chunk (Some c) size = chunk_copied (copied_to c.bytes (zeros size)) (copied_count c.bytes (zeros size))

-- options that break a rule of WebIDL, or are not those of audio data
abbrev pub copy_sound : Sound → Options → ℕ → StepResult
copy_sound s (options.Audio (Some o)) size = audio_copied size (copied_audio s size (copy_options o))
copy_sound s _ size = refused dom.TypeErr

abbrev pub copy_frame : Frame → Options → ℕ → StepResult
copy_frame f (options.Frame (Some o)) size =
    planes_copied (unwrap_or (content_of f) []) (zeros size) (video.plan_for f (option_map rect_of o.rect) (layouts_in o))
copy_frame f _ size = refused dom.TypeErr

abbrev pub size_of_sound : Sound → Options → StepResult
size_of_sound s (options.Audio (Some o)) = size_found (allocation_size s (copy_options o))
size_of_sound s _ = refused dom.TypeErr

abbrev pub size_of_frame : Frame → Options → StepResult
size_of_frame f (options.Frame (Some o)) = size_found (video.allocation_size f (option_map rect_of o.rect) (layouts_in o))
size_of_frame f _ = refused dom.TypeErr

abbrev pub copy_medium : Medium → Options → ℕ → StepResult
copy_medium m o size = elim (m.shape) [
  | SoundOf shape ↦ copy_sound (sound_of shape m.held) o size
  | PictureOf shape ↦ copy_frame (frame_of shape m.held) o size
  | ChunkOf chunk ↦ refused dom.TypeErr
  | BufferOf ↦ refused dom.TypeErr
]

-- a buffer has the size of its bytes, and takes no options
abbrev pub size_of_medium : Medium → Options → StepResult
size_of_medium m o = elim (m.shape) [
  | SoundOf shape ↦ size_of_sound (sound_of shape m.held) o
  | PictureOf shape ↦ size_of_frame (frame_of shape m.held) o
  | ChunkOf chunk ↦ refused dom.TypeErr
  | BufferOf ↦ result.Size (length (bytes_held m.held))
]

abbrev pub chunk_in_medium : Medium → Option Chunk
chunk_in_medium m = elim (m.shape) [ SoundOf shape ↦ None | PictureOf shape ↦ None | ChunkOf chunk ↦ Some chunk | BufferOf ↦ None ]

-- the chunk of a variable: the one that its step makes or takes from a chunk file, or the one that was taken from an encoder
abbrev pub chunk_of_variable : Option Chunk → List (Option Medium) → ℕ → Option Chunk
chunk_of_variable made vs j = option_or made (option_and_then chunk_in_medium (medium_at vs j))

-- a chunk has no options
abbrev pub copy_came : Option Chunk → ℕ → Options → ℕ → List (Option Medium) → Came
copy_came chunk of options.Nothing size vs = only_answers (copy_chunk (chunk_of_variable chunk vs of) size) vs
copy_came chunk of o size vs = if_there (medium_at vs of) vs (λ m. only_answers (copy_medium m o size) vs)

-- ---- outputs of codecs

-- an output that a step takes, and what that answers
pub record Taken : Type 0 where
  pub unit : output.Unit
  pub answer : StepResult

-- what was received from a port: the medium, and the step that posted it
pub record Received : Type 0 where
  pub poster : Who
  pub medium : Medium

-- what a step is given from elsewhere: the chunk that it copies, if that was made or is of a chunk file, the output that it takes, and
-- what it receives from a port
pub record Brought : Type 0 where
  pub chunk : Option Chunk
  pub taken : Option Taken
  pub received : Option Received

-- the variable holds the chunk itself
abbrev pub chunk_medium : Chunk → Medium
chunk_medium chunk = record { shape = ChunkOf chunk; held = None }

-- the bytes of audio data or of a frame are those of a new resource; a chunk stays in the variable itself
abbrev pub unit_came : Numbers → ℕ → StepResult → output.Unit → List (Option Medium) → Came
unit_came n j answer (unit.Sound s) vs = record (makes n j (SoundOf s.shape) s.bytes vs) { answer = answer }
unit_came n j answer (unit.Image p) vs = record (makes n j (PictureOf p.shape) p.bytes vs) { answer = answer }
unit_came n j answer (unit.Coded chunk config) vs = record { answer = answer; variables = with_medium j (chunk_medium chunk) vs; does = [] }

-- where no output is taken, the step is none on media
abbrev pub taken_came : Numbers → ℕ → Option Taken → List (Option Medium) → Option Came
taken_came n j None vs = None
taken_came n j (Some t) vs = Some (unit_came n j t.answer t.unit vs)

-- ---- ports

-- the medium goes into a port, and the variable is detached
abbrev pub post_held : ℕ → Option Reference → List (Option Medium) → Came
post_held of None vs = only_answers (refused dom.DataClone) vs
post_held of (Some r) vs = only_answers (result.Local None) (without of vs)

-- what a step posts, if it posts something
abbrev pub if_held : Medium → Option Reference → Option Medium
if_held m None = None
if_held m (Some r) = Some m

abbrev pub posted_from : List (Option Medium) → ℕ → Option Medium
posted_from vs of = option_and_then (λ m. if_held m m.held) (medium_at vs of)

abbrev pub posted_by : MediaStep → List (Option Medium) → Option Medium
posted_by (media.Post to content) vs = posted_from vs content.step
posted_by _ vs = None

-- what a post of a variable comes to
abbrev pub post_came : ℕ → List (Option Medium) → Came
post_came of vs = if_there (medium_at vs of) vs (λ m. post_held of m.held vs)

-- a step that uses a port
abbrev pub uses_port : MediaStep → Bool
uses_port (media.Post to content) = true
uses_port (media.Receive from bind kind) = true
uses_port _ = false

-- the variable holds what was received, or is absent
abbrev pub received_came : ℕ → Option Received → List (Option Medium) → Came
received_came j None vs = only_answers result.Nothing vs
received_came j (Some p) vs = only_answers (result.From p.poster) (with_medium j p.medium vs)

-- ---- what an encode is given

-- audio data or a frame: its shape, and the reference that it holds
pub record Lendable : Type 0 where
  pub shape : MediaShape
  pub held : Option Reference

abbrev pub lendable_in : Medium → Option Lendable
lendable_in m = elim (m.shape) [
  | SoundOf shape ↦ Some (record { shape = media_shape.Sound shape; held = m.held })
  | PictureOf shape ↦ Some (record { shape = media_shape.Image shape; held = m.held })
  | ChunkOf chunk ↦ None
  | BufferOf ↦ None
]

-- the audio data or frame of the variable that the step with this number defines; none where it is absent
abbrev pub lendable_at : List (Option Medium) → ℕ → Option Lendable
lendable_at vs j = option_and_then lendable_in (medium_at vs j)

-- the bytes that the shape needs: a resource that was a buffer's may have more
abbrev pub content_in : MediaShape → List ℕ → List ℕ
content_in (media_shape.Sound shape) bytes = take (needed shape) bytes
content_in (media_shape.Image shape) bytes = take (picture_size shape) bytes

-- What an encode hands to its codec: nothing of a medium that is detached; else, where the codec accepts it, its shape and bytes,
-- with one reference more to its resource, of this number.
abbrev pub handed_by : ℕ → Bool → MediaShape → Option Reference → Handed
handed_by number accepts shape None = handed.Gone
handed_by number accepts shape (Some r) =
    if accepts then handed.Cloned (record { shape = shape; bytes = content_in shape r.bytes; pair = record { resource = r.resource; reference = number } })
    else handed.Kept

abbrev pub handed_of : ℕ → Bool → Lendable → Handed
handed_of number accepts m = handed_by number accepts m.shape m.held

-- ---- every step

-- the step that defines the chunk which a step copies, if it copies one
abbrev pub chunk_in : MediaStep → Option ℕ
chunk_in (media.Copy of options.Nothing size) = Some of.step
chunk_in _ = None

-- What a step on media comes to, after the caller's variables, with what is brought to it, and with these numbers for what it
-- makes. A step that encodes is the codec's.
abbrev pub media_came : Numbers → Who → Brought → MediaStep → List (Option Medium) → Option Came
media_came n who b (media.Audio bind init) vs = Some (audio_came n who.step init vs)
media_came n who b (media.Frame bind init) vs = Some (frame_came n who.step init vs)
media_came n who b (media.Buffer bind content) vs = Some (makes n who.step BufferOf content vs)
media_came n who b (media.Buffered bind init) vs = Some (buffered_came n who.step init vs)
media_came n who b (media.Encode on content) vs = None
media_came n who b (media.Take on bind kind) vs = taken_came n who.step b.taken vs
media_came n who b (media.Clone of bind) vs = Some (if_there (medium_at vs of.step) vs (λ m. clone_held n who.step m.shape m.held vs))
media_came n who b (media.Transfer of bind) vs = Some (if_there (medium_at vs of.step) vs (λ m. transfer_held who.step of.step m m.held vs))
media_came n who b (media.CloseData of) vs = Some (if_there (medium_at vs of.step) vs (λ m. close_held of.step m m.held vs))
media_came n who b (media.Copy of o size) vs = Some (copy_came b.chunk of.step o size vs)
media_came n who b (media.Size of o) vs = Some (if_there (medium_at vs of.step) vs (λ m. only_answers (size_of_medium m o) vs))
media_came n who b (media.Post to content) vs = Some (post_came content.step vs)
media_came n who b (media.Receive from bind kind) vs = Some (received_came who.step b.received vs)

-- ---- the entry behind a pool's history

-- whether a reference that ends by this cause is the last one of its resource
abbrev pub is_last_of : By → ℕ → ℕ → List PoolEntry → Bool
is_last_of cause resource number pool = not (is_held resource (pool ++ record { by = cause; op = op.End resource number false } ∷ []))

-- what is done, where an end says this of its resource
abbrev pub with_last : Bool → PoolOp → PoolOp
with_last last (op.Make r f) = op.Make r f
with_last last (op.Clone r f) = op.Clone r f
with_last last (op.End r f any) = op.End r f last

-- an end says that it was the last of its resource where it is, behind this history
abbrev pub flag_behind : By → List PoolEntry → PoolOp → Bool
flag_behind cause pool (op.Make r f) = false
flag_behind cause pool (op.Clone r f) = false
flag_behind cause pool (op.End r f any) = is_last_of cause r f pool

-- the entry of a step, with this flag
abbrev pub entry_of : Who → Bool → PoolOp → PoolEntry
entry_of who last o = record { by = by.Caller who; op = with_last last o }

-- the entries behind a pool's history of what a step does
abbrev pub entry_behind : List PoolEntry → Who → PoolOp → PoolEntry
entry_behind pool who o = entry_of who (flag_behind (by.Caller who) pool o) o

abbrev pub entries_of : List PoolEntry → Who → List PoolOp → List PoolEntry
entries_of pool who [] = []
entries_of pool who (o ∷ os) = entry_behind pool who o ∷ entries_of (pool ++ entry_behind pool who o ∷ []) who os

-- all callers' variables and the pool's history after a step of a caller
abbrev pub after_came : Who → Came → Media → Media
after_came who c m = record { variables = slice_set m.variables who.caller c.variables; pool = m.pool ++ entries_of m.pool who c.does }

-- a step answered, and came to this; one that is the codec's has no answer, and changed nothing
abbrev pub IsCome : Media → Media → Who → Option Came → Option StepResult → Type 0
IsCome old new who None answer = (answer ≡ None) × (new ≡ old)
IsCome old new who (Some c) answer = (answer ≡ Some c.answer) × (new ≡ after_came who c old)

abbrev pub CameTo : Media → Media → Who → Brought → MediaStep → Option StepResult → Type 0
CameTo old new who b step answer =
    IsCome old new who (media_came (next_numbers old.pool) who b step (variables_of who.caller old.variables)) answer
