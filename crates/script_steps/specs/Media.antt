-- What chunks, audio data and frames are made of (W3C WebCodecs, EncodedAudioChunkInit, AudioDataInit and
-- VideoFrameBufferInit; data as hex text, a rate in whole numbers and the formats that are taken are our choice).
use Rattle.std.specs.Prelude.{ℕ, ℤ, Bool, true, false, List, bytes_eq, codes, if◌then◌else◌, Option, Some, None, option_map, option_and_then, Result, Ok}
use Rattle.serde_json.specs.Data.{Data}
use Rattle.serde_json.specs.Find.{get}
use Rattle.wc_base.specs.declared.media.SampleFormat.{SampleFormat}
use Rattle.wc_base.specs.declared.media.SampleFormat.TheVariants as sample
use Rattle.wc_base.specs.declared.media.PictureFormat.{PictureFormat}
use Rattle.wc_base.specs.declared.media.PictureFormat.TheVariants as picture
use Rattle.wc_base.specs.declared.media.SoundShape.{SoundShape}
use Rattle.wc_base.specs.declared.media.PictureShape.{PictureShape}
use Rattle.script_types.specs.declared.steps.VariableKind.{VariableKind}
use Rattle.script_types.specs.declared.steps.VariableKind.TheVariants as holds
use Rattle.script_types.specs.declared.steps.InitShape.{InitShape}
use Rattle.script_types.specs.declared.steps.InitShape.TheVariants as shape
use Rattle.script_types.specs.declared.steps.ChunkInit.{ChunkInit}
use Rattle.script_types.specs.declared.steps.SoundInit.{SoundInit}
use Rattle.script_types.specs.declared.steps.PictureInit.{PictureInit}
use Rattle.chunk_files.specs.declared.fault.Stop.{Stop}
use Rattle.script_types.specs.declared.fault.Wrong.{Wrong}
use Rattle.script_steps.specs.Members.{and_then, needed, word_of, u32_of, timestamp_of, duration_of, hex_of, required, optional}

-- ---- inline data

-- the bytes of an init's data, where it is hex text
abbrev pub data_of_init : Data → Option (List ℕ)
data_of_init init = option_and_then hex_of (get (codes "data") init)

-- the bytes of inline data of a step with an init
abbrev pub data_of_step : Data → Option (List ℕ)
data_of_step d = option_and_then data_of_init (get (codes "init") d)

abbrev pub data_value : Data → Result (Option (List ℕ)) (Stop Wrong)
data_value d = and_then (needed (hex_of d)) (λ bytes. Ok (Some bytes))

-- the members that inits share
abbrev pub timestamp_in : Data → Result (Option ℤ) (Stop Wrong)
timestamp_in d = required timestamp_of (get (codes "timestamp") d)

abbrev pub duration_in : Data → Result (Option (Option ℕ)) (Stop Wrong)
duration_in d = optional duration_of (get (codes "duration") d)

abbrev pub content_in : Data → Result (Option (List ℕ)) (Stop Wrong)
content_in d = required data_value (get (codes "data") d)

-- ---- chunks

-- the words of a chunk's type
abbrev pub key_of : List ℕ → Option Bool
key_of text = if bytes_eq text (codes "key") then Some true else if bytes_eq text (codes "delta") then Some false else None

-- what an init says of its chunk apart from its data, where each member has a value
abbrev pub chunk_shape_with : Option Bool → Option ℤ → Option (Option ℕ) → Option InitShape
chunk_shape_with (Some key) (Some timestamp) (Some duration) = Some (shape.Chunk key timestamp duration)
chunk_shape_with _ _ _ = None

abbrev pub chunk_shape_of : Data → Result (Option InitShape) (Stop Wrong)
chunk_shape_of d =
    and_then (required (word_of key_of) (get (codes "type") d)) (λ key.
    and_then (timestamp_in d) (λ timestamp. and_then (duration_in d) (λ duration. Ok (chunk_shape_with key timestamp duration))))

-- a chunk's init, where each member has a value
abbrev pub chunk_with : Option InitShape → Option (List ℕ) → Option ChunkInit
chunk_with (Some (shape.Chunk key timestamp duration)) (Some content) =
    Some (record { key = key; timestamp = timestamp; duration = duration; content = content })
chunk_with _ _ = None

abbrev pub chunk_of : Data → Result (Option ChunkInit) (Stop Wrong)
chunk_of d = and_then (chunk_shape_of d) (λ shape. and_then (content_in d) (λ content. Ok (chunk_with shape content)))

-- ---- audio data

-- the formats of samples; there is no audio data of floats
abbrev pub sample_format_of : List ℕ → Option SampleFormat
sample_format_of text =
    if bytes_eq text (codes "u8") then Some sample.U8
    else if bytes_eq text (codes "s16") then Some sample.S16
    else if bytes_eq text (codes "s32") then Some sample.S32
    else if bytes_eq text (codes "u8-planar") then Some sample.U8Planar
    else if bytes_eq text (codes "s16-planar") then Some sample.S16Planar
    else if bytes_eq text (codes "s32-planar") then Some sample.S32Planar
    else None

-- the shape of audio data, where each member has a value
abbrev pub sound_shape_with : Option SampleFormat → Option ℕ → Option ℕ → Option ℕ → Option ℤ → Option SoundShape
sound_shape_with (Some format) (Some rate) (Some frames) (Some channels) (Some timestamp) =
    Some (record { format = format; rate = rate; channels = channels; frames = frames; timestamp = timestamp })
sound_shape_with _ _ _ _ _ = None

abbrev pub sound_shape_of : Data → Result (Option SoundShape) (Stop Wrong)
sound_shape_of d =
    and_then (required (word_of sample_format_of) (get (codes "format") d)) (λ format.
    and_then (required u32_of (get (codes "sampleRate") d)) (λ rate.
    and_then (required u32_of (get (codes "numberOfFrames") d)) (λ frames.
    and_then (required u32_of (get (codes "numberOfChannels") d)) (λ channels.
    and_then (timestamp_in d) (λ timestamp. Ok (sound_shape_with format rate frames channels timestamp))))))

-- audio data's init, where each member has a value
abbrev pub sound_with : Option SoundShape → Option (List ℕ) → Option SoundInit
sound_with (Some shape) (Some content) = Some (record { shape = shape; content = content })
sound_with _ _ = None

abbrev pub sound_of : Data → Result (Option SoundInit) (Stop Wrong)
sound_of d = and_then (sound_shape_of d) (λ shape. and_then (content_in d) (λ content. Ok (sound_with shape content)))

-- ---- frames

-- the formats of pictures
abbrev pub picture_format_of : List ℕ → Option PictureFormat
picture_format_of text =
    if bytes_eq text (codes "I420") then Some picture.I420
    else if bytes_eq text (codes "I422") then Some picture.I422
    else if bytes_eq text (codes "I444") then Some picture.I444
    else if bytes_eq text (codes "NV12") then Some picture.Nv12
    else None

-- the shape of a frame, where each member has a value
abbrev pub picture_shape_with : Option PictureFormat → Option ℕ → Option ℕ → Option ℤ → Option (Option ℕ) → Option PictureShape
picture_shape_with (Some format) (Some width) (Some height) (Some timestamp) (Some duration) =
    Some (record { format = format; width = width; height = height; timestamp = timestamp; duration = duration })
picture_shape_with _ _ _ _ _ = None

abbrev pub picture_shape_of : Data → Result (Option PictureShape) (Stop Wrong)
picture_shape_of d =
    and_then (required (word_of picture_format_of) (get (codes "format") d)) (λ format.
    and_then (required u32_of (get (codes "codedWidth") d)) (λ width.
    and_then (required u32_of (get (codes "codedHeight") d)) (λ height.
    and_then (timestamp_in d) (λ timestamp. and_then (duration_in d) (λ duration.
    Ok (picture_shape_with format width height timestamp duration))))))

-- a frame's init, where each member has a value
abbrev pub picture_with : Option PictureShape → Option (List ℕ) → Option PictureInit
picture_with (Some shape) (Some content) = Some (record { shape = shape; content = content })
picture_with _ _ = None

abbrev pub picture_of : Data → Result (Option PictureInit) (Stop Wrong)
picture_of d = and_then (picture_shape_of d) (λ shape. and_then (content_in d) (λ content. Ok (picture_with shape content)))

-- ---- any of the three

-- what an init says of what it makes, which is of this kind, apart from its data
abbrev pub init_shape_of : VariableKind → Data → Result (Option InitShape) (Stop Wrong)
init_shape_of holds.Chunk d = chunk_shape_of d
init_shape_of holds.Audio d = and_then (sound_shape_of d) (λ s. Ok (option_map (λ x. shape.Sound x) s))
init_shape_of holds.Frame d = and_then (picture_shape_of d) (λ s. Ok (option_map (λ x. shape.Picture x) s))
init_shape_of _ d = Ok None
