-- How media are copied (W3C WebCodecs, AudioDataCopyToOptions and VideoFrameCopyToOptions; absent options are an empty
-- object, as WebIDL has it, and a rectangle of whole pixels is our choice).
use Rattle.std.specs.Prelude.{ℕ, List, [], ◌∷◌, ◌++◌, bytes_eq, codes, if◌then◌else◌, Option, Some, None, option_and_then, Result, Ok}
use Rattle.serde_json.specs.Data.{Data, Items, no_items, item}
use Rattle.serde_json.specs.Find.{get, as_array}
use Rattle.script_types.specs.declared.options.FormatWord.{FormatWord}
use Rattle.script_types.specs.declared.options.FormatWord.TheVariants as format
use Rattle.script_types.specs.declared.options.AudioOptions.{AudioOptions}
use Rattle.script_types.specs.declared.options.RectWords.{RectWords}
use Rattle.script_types.specs.declared.options.LayoutWords.{LayoutWords}
use Rattle.script_types.specs.declared.options.FrameOptions.{FrameOptions}
use Rattle.script_types.specs.declared.options.Options.{Options}
use Rattle.script_types.specs.declared.options.Options.TheVariants as options
use Rattle.script_types.specs.declared.steps.VariableKind.{VariableKind}
use Rattle.script_types.specs.declared.steps.VariableKind.TheVariants as holds
use Rattle.chunk_files.specs.declared.fault.Stop.{Stop}
use Rattle.script_types.specs.declared.fault.Wrong.{Wrong}
use Rattle.script_steps.specs.Members.{and_then, needed, checked_object, object_if_there, word_of, u32_of, required, defaulted, optional}

-- a member of an object that may be absent
abbrev pub member_of : List ℕ → Option Data → Option Data
member_of key object = option_and_then (get key) object

-- ---- audio data

abbrev pub format_of : List ℕ → Option FormatWord
format_of text =
    if bytes_eq text (codes "u8") then Some format.U8
    else if bytes_eq text (codes "s16") then Some format.S16
    else if bytes_eq text (codes "s32") then Some format.S32
    else if bytes_eq text (codes "u8-planar") then Some format.U8Planar
    else if bytes_eq text (codes "s16-planar") then Some format.S16Planar
    else if bytes_eq text (codes "s32-planar") then Some format.S32Planar
    else if bytes_eq text (codes "f32") then Some format.F32
    else if bytes_eq text (codes "f32-planar") then Some format.F32Planar
    else None

-- options where each member has a value
abbrev pub audio_options_with : Option ℕ → Option ℕ → Option (Option ℕ) → Option (Option FormatWord) → Option AudioOptions
audio_options_with (Some plane) (Some offset) (Some count) (Some format) =
    Some (record { plane = plane; offset = offset; count = count; format = format })
audio_options_with _ _ _ _ = None

abbrev pub audio_options_of : Option Data → Result (Option AudioOptions) (Stop Wrong)
audio_options_of object =
    and_then (required u32_of (member_of (codes "planeIndex") object)) (λ plane.
    and_then (defaulted 0 u32_of (member_of (codes "frameOffset") object)) (λ offset.
    and_then (optional u32_of (member_of (codes "frameCount") object)) (λ count.
    and_then (optional (word_of format_of) (member_of (codes "format") object)) (λ format.
    Ok (audio_options_with plane offset count format)))))

-- ---- frames

abbrev pub rect_with : Option ℕ → Option ℕ → Option ℕ → Option ℕ → Option RectWords
rect_with (Some x) (Some y) (Some width) (Some height) = Some (record { x = x; y = y; width = width; height = height })
rect_with _ _ _ _ = None

abbrev pub rect_of : Data → Result (Option RectWords) (Stop Wrong)
rect_of d =
    and_then (needed (checked_object d)) (λ object.
    and_then (defaulted 0 u32_of (get (codes "x") object)) (λ x.
    and_then (defaulted 0 u32_of (get (codes "y") object)) (λ y.
    and_then (defaulted 0 u32_of (get (codes "width") object)) (λ width.
    and_then (defaulted 0 u32_of (get (codes "height") object)) (λ height.
    Ok (rect_with x y width height))))))

abbrev pub layout_with : Option ℕ → Option ℕ → Option LayoutWords
layout_with (Some offset) (Some stride) = Some (record { offset = offset; stride = stride })
layout_with _ _ = None

-- the layout of one plane
abbrev pub plane_of : Data → Result (Option LayoutWords) (Stop Wrong)
plane_of d =
    and_then (needed (checked_object d)) (λ object.
    and_then (required u32_of (get (codes "offset") object)) (λ offset.
    and_then (required u32_of (get (codes "stride") object)) (λ stride. Ok (layout_with offset stride))))

-- one more plane, where all have a value
abbrev pub with_plane : Option (List LayoutWords) → Option LayoutWords → Option (List LayoutWords)
with_plane (Some before) (Some plane) = Some (before ++ plane ∷ [])
with_plane _ _ = None

-- all planes, where those before are given
abbrev pub planes_of : Option (List LayoutWords) → Items → Result (Option (List LayoutWords)) (Stop Wrong)
planes_of before no_items = Ok before
planes_of before (item d ds) = and_then (plane_of d) (λ plane. planes_of (with_plane before plane) ds)

abbrev pub layout_of : Data → Result (Option (List LayoutWords)) (Stop Wrong)
layout_of d = and_then (needed (as_array d)) (λ planes. planes_of (Some []) planes)

-- options where each member has a value
abbrev pub frame_options_with : Option (Option RectWords) → Option (Option (List LayoutWords)) → Option FrameOptions
frame_options_with (Some rect) (Some layout) = Some (record { rect = rect; layout = layout })
frame_options_with _ _ = None

abbrev pub frame_options_of : Option Data → Result (Option FrameOptions) (Stop Wrong)
frame_options_of object =
    and_then (optional rect_of (member_of (codes "rect") object)) (λ rect.
    and_then (optional layout_of (member_of (codes "layout") object)) (λ layout. Ok (frame_options_with rect layout)))

-- ---- by the kind of what is copied

-- the members of a chunk's or a buffer's options are not looked at, and a promise is never copied
abbrev pub options_by : VariableKind → Option Data → Result Options (Stop Wrong)
options_by holds.Audio object = and_then (audio_options_of object) (λ o. Ok (options.Audio o))
options_by holds.Frame object = and_then (frame_options_of object) (λ o. Ok (options.Frame o))
options_by holds.Chunk object = Ok options.Nothing
options_by holds.Promise object = Ok options.Nothing
options_by holds.Buffer object = Ok options.Nothing

abbrev pub options_for : VariableKind → Option Data → Result Options (Stop Wrong)
options_for kind d = and_then (object_if_there d) (options_by kind)
