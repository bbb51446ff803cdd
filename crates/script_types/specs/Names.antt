-- What a name in a script names: a kind of codec, a codec, a caller, or a variable that an earlier step of the same caller defines.
use Rattle.std.specs.Prelude.{ℕ, ◌&&◌, ◌||◌, ◌==◌, nat_lt, nat_le, if◌then◌else◌, Bool, true, false, List, [], ◌∷◌, length, bytes_eq, codes, Option, Some, None, option_and_then}
use Rattle.std.specs.List.{list_all, list_any, position, slice_get}
use Rattle.wc_config.specs.declared.kind.Kind.{Kind}
use Rattle.wc_config.specs.declared.kind.Kind.TheVariants as kind
use Rattle.wc_base.specs.declared.ground.Ground.{Ground}
use Rattle.wc_base.specs.declared.ground.Ground.TheVariants as grounds
use Rattle.script_types.specs.declared.script.CodecItem.{CodecItem}
use Rattle.script_types.specs.declared.script.CallerItem.{CallerItem}
use Rattle.script_types.specs.declared.script.PortKind.{PortKind}
use Rattle.script_types.specs.declared.script.PortKind.TheVariants as port
use Rattle.script_types.specs.declared.found.FoundCodec.{FoundCodec}
use Rattle.script_types.specs.declared.found.FoundVariable.{FoundVariable}
use Rattle.script_types.specs.declared.steps.Step.{Step}
use Rattle.script_types.specs.declared.steps.Step.TheVariants as step
use Rattle.script_types.specs.declared.steps.MediaStep.{MediaStep}
use Rattle.script_types.specs.declared.steps.MediaStep.TheVariants as media
use Rattle.script_types.specs.declared.steps.InitShape.{InitShape}
use Rattle.script_types.specs.declared.steps.InitShape.TheVariants as init_shape
use Rattle.script_types.specs.declared.steps.Variable.{Variable}
use Rattle.script_types.specs.declared.steps.VariableKind.{VariableKind}
use Rattle.script_types.specs.declared.steps.VariableKind.TheVariants as holds

-- ---- names

-- a to z, 0 to 9, _ and -
abbrev pub is_name_byte : ℕ → Bool
is_name_byte b = (nat_le 97 b && nat_le b 122) || ((nat_le 48 b && nat_le b 57) || ((b == 95) || (b == 45)))

-- 1 to 32 of these characters
abbrev pub is_name : List ℕ → Bool
is_name text = nat_lt 0 (length text) && (nat_le (length text) 32 && list_all is_name_byte text)

-- the first of some values whose word this is
abbrev pub first_named : {X : Type 0} → (X → List ℕ) → List X → List ℕ → Option X
first_named text [] w = None
first_named text (x ∷ xs) w = if bytes_eq w (text x) then Some x else first_named text xs w

-- ---- kinds of codecs

-- the word of a kind, in scripts and in reports
abbrev pub kind_text : Kind → List ℕ
kind_text kind.AudioDecoder = codes "audio-decoder"
kind_text kind.AudioEncoder = codes "audio-encoder"
kind_text kind.VideoDecoder = codes "video-decoder"
kind_text kind.VideoEncoder = codes "video-encoder"

-- the kind whose word this is
abbrev pub kind_named : List ℕ → Option Kind
kind_named w = first_named kind_text (kind.AudioDecoder ∷ kind.AudioEncoder ∷ kind.VideoDecoder ∷ kind.VideoEncoder ∷ []) w

-- ---- grounds

-- the word of a ground, in scripts and in reports
abbrev pub ground_text : Ground → List ℕ
ground_text grounds.Foreground = codes "foreground"
ground_text grounds.Background = codes "background"
ground_text grounds.BackgroundEncoding = codes "background-encoding"

-- the ground whose word this is
abbrev pub ground_named : List ℕ → Option Ground
ground_named w = first_named ground_text (grounds.Foreground ∷ grounds.Background ∷ grounds.BackgroundEncoding ∷ []) w

-- ---- what kinds of codecs do

abbrev pub decodes : Kind → Bool
decodes kind.AudioDecoder = true
decodes kind.AudioEncoder = false
decodes kind.VideoDecoder = true
decodes kind.VideoEncoder = false

-- what the outputs of a codec of this kind are
abbrev pub outputs_of : Kind → VariableKind
outputs_of kind.AudioDecoder = holds.Audio
outputs_of kind.AudioEncoder = holds.Chunk
outputs_of kind.VideoDecoder = holds.Frame
outputs_of kind.VideoEncoder = holds.Chunk

-- what a codec of this kind is given
abbrev pub inputs_of : Kind → VariableKind
inputs_of kind.AudioDecoder = holds.Chunk
inputs_of kind.AudioEncoder = holds.Audio
inputs_of kind.VideoDecoder = holds.Chunk
inputs_of kind.VideoEncoder = holds.Frame

-- ---- ports

-- what the ports that a word names are of
abbrev pub port_named : List ℕ → Option PortKind
port_named w = if bytes_eq w (codes "audio") then Some port.Audio else if bytes_eq w (codes "frame") then Some port.Frame else None

-- what is posted at a port of this kind
abbrev pub posted_at : PortKind → VariableKind
posted_at port.Audio = holds.Audio
posted_at port.Frame = holds.Frame

-- ---- codecs and callers

abbrev pub codec_at : ℕ → Option CodecItem → Option FoundCodec
codec_at n None = None
codec_at n (Some c) = Some (record { number = n; kind = c.kind })

-- the codec of this name
abbrev pub codec_named : List CodecItem → List ℕ → Option FoundCodec
codec_named codecs name = option_and_then (λ n. codec_at n (slice_get codecs n)) (position (λ c. bytes_eq c.name name) codecs)

-- the number of the caller of this name
abbrev pub caller_named : List CallerItem → List ℕ → Option ℕ
caller_named callers name = position (λ c. bytes_eq c.name name) callers

abbrev pub is_codec_name : List CodecItem → List ℕ → Bool
is_codec_name codecs name = list_any (λ c. bytes_eq c.name name) codecs

abbrev pub is_caller_name : List CallerItem → List ℕ → Bool
is_caller_name callers name = list_any (λ c. bytes_eq c.name name) callers

-- ---- what steps name

-- the codec that a step names, if it names one
abbrev pub names_codec : Step → Option ℕ
names_codec (step.Configure on config) = Some on
names_codec (step.Decode on chunk) = Some on
names_codec (step.Flush on bind) = Some on
names_codec (step.Reset on) = Some on
names_codec (step.Close on) = Some on
names_codec (step.State on) = Some on
names_codec (step.Ground on to) = Some on
names_codec (step.Media (media.Encode on content)) = Some on
names_codec (step.Media (media.Take on bind kind)) = Some on
names_codec _ = None

-- the codec that a step calls, if it calls one
abbrev pub called : Step → Option ℕ
called (step.Configure on config) = Some on
called (step.Decode on chunk) = Some on
called (step.Flush on bind) = Some on
called (step.Reset on) = Some on
called (step.Close on) = Some on
called (step.Ground on to) = Some on
called (step.Chunk bind source) = None
called (step.Poll promise) = None
called (step.Await promise) = None
called (step.State on) = None
called (step.Media (media.Encode on content)) = Some on
called (step.Media _) = None

-- the codec that a step takes an output of, if it takes one
abbrev pub taken_from : Step → Option ℕ
taken_from (step.Media (media.Take on bind kind)) = Some on
taken_from _ = None

-- the promise that a step looks at, if it looks at one
abbrev pub looked_at : Step → Option Variable
looked_at (step.Poll promise) = Some promise
looked_at (step.Await promise) = Some promise
looked_at _ = None

abbrev pub IsFlush : Step → Type 0
IsFlush (step.Flush on bind) = Unit {0}
IsFlush _ = ⊥

-- ---- variables

-- what an init of this shape makes
abbrev pub made_of : InitShape → VariableKind
made_of (init_shape.Chunk key timestamp duration) = holds.Chunk
made_of (init_shape.Sound shape) = holds.Audio
made_of (init_shape.Picture shape) = holds.Frame

-- the variable that a step defines, and what it holds
abbrev pub binds_media : MediaStep → Option (List ℕ × VariableKind)
binds_media (media.Audio bind init) = Some (bind, holds.Audio)
binds_media (media.Frame bind init) = Some (bind, holds.Frame)
binds_media (media.Buffer bind content) = Some (bind, holds.Buffer)
binds_media (media.Buffered bind init) = Some (bind, made_of init.shape)
binds_media (media.Encode on content) = None
binds_media (media.Take on bind kind) = Some (bind, kind)
binds_media (media.Clone of bind) = Some (bind, of.kind)
binds_media (media.Transfer of bind) = Some (bind, of.kind)
binds_media (media.CloseData of) = None
binds_media (media.Copy of options size) = None
binds_media (media.Size of options) = None
binds_media (media.Post to content) = None
binds_media (media.Receive from bind kind) = Some (bind, kind)

abbrev pub binds : Step → Option (List ℕ × VariableKind)
binds (step.Configure on config) = None
binds (step.Chunk bind source) = Some (bind, holds.Chunk)
binds (step.Decode on chunk) = None
binds (step.Flush on bind) = Some (bind, holds.Promise)
binds (step.Poll promise) = None
binds (step.Await promise) = None
binds (step.Reset on) = None
binds (step.Close on) = None
binds (step.State on) = None
binds (step.Ground on to) = None
binds (step.Media s) = binds_media s

-- what is bound has this name
abbrev pub is_bound_as : List ℕ → Option (List ℕ × VariableKind) → Bool
is_bound_as name None = false
is_bound_as name (Some b) = bytes_eq b.0 name

-- the step defines the variable of this name
abbrev pub defines : List ℕ → Step → Bool
defines name s = is_bound_as name (binds s)

abbrev pub found_at : ℕ → Option (List ℕ × VariableKind) → Option FoundVariable
found_at n None = None
found_at n (Some b) = Some (record { step = n; kind = b.1 })

-- the variable that step n defines
abbrev pub variable_at : ℕ → Option Step → Option FoundVariable
variable_at n s = found_at n (option_and_then binds s)

-- the variable of this name, after these steps
abbrev pub variable_named : List Step → List ℕ → Option FoundVariable
variable_named steps name = option_and_then (λ n. variable_at n (slice_get steps n)) (position (λ s. defines name s) steps)

abbrev pub is_variable_name : List Step → List ℕ → Bool
is_variable_name steps name = list_any (λ s. defines name s) steps

-- what holds which kind
abbrev pub is_chunk : VariableKind → Bool
is_chunk holds.Chunk = true
is_chunk _ = false

abbrev pub is_audio : VariableKind → Bool
is_audio holds.Audio = true
is_audio _ = false

abbrev pub is_frame : VariableKind → Bool
is_frame holds.Frame = true
is_frame _ = false

abbrev pub is_promise : VariableKind → Bool
is_promise holds.Promise = true
is_promise _ = false

-- audio data or a frame
abbrev pub is_medium : VariableKind → Bool
is_medium holds.Audio = true
is_medium holds.Frame = true
is_medium _ = false

abbrev pub is_buffer : VariableKind → Bool
is_buffer holds.Buffer = true
is_buffer _ = false

-- a medium or a chunk
abbrev pub is_copied : VariableKind → Bool
is_copied holds.Promise = false
is_copied holds.Buffer = false
is_copied _ = true

-- a medium or a buffer
abbrev pub is_sized : VariableKind → Bool
is_sized holds.Audio = true
is_sized holds.Frame = true
is_sized holds.Buffer = true
is_sized _ = false
