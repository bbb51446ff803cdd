-- When nothing in a script's data is at fault: its names are names and differ, every reference names what is there and of
-- the kind that is needed, its numbers are in their ranges, no count is above its limit, and the order, where there is one,
-- has each caller as often as it has steps.
use Rattle.std.specs.Prelude.{ℕ, ◌+◌, ◌&&◌, ◌||◌, ◌==◌, not, nat_lt, nat_le, if◌then◌else◌, Bool, true, false, List, [], ◌∷◌, ◌++◌, length, bytes_eq, sum_by, Option, Some, None, option_and_then}
use Rattle.std.specs.List.{list_all, list_any, slice_get, count_by}
use Rattle.wc_config.specs.declared.config.Config.{Config}
use Rattle.wc_config.specs.declared.config.Config.TheVariants as config
use Rattle.wc_config.specs.declared.kind.Kind.{Kind}
use Rattle.wc_config.specs.declared.kind.Kind.TheVariants as kind
use Rattle.script_types.specs.declared.script.CodecItem.{CodecItem}
use Rattle.script_types.specs.declared.script.CallerItem.{CallerItem}
use Rattle.script_types.specs.declared.script.PortItem.{PortItem}
use Rattle.script_types.specs.declared.script.OrderItem.{OrderItem}
use Rattle.script_types.specs.declared.script.OrderItem.TheVariants as order
use Rattle.script_types.specs.declared.script.ScriptData.{ScriptData}
use Rattle.script_types.specs.declared.options.Options.{Options}
use Rattle.script_types.specs.declared.options.Options.TheVariants as options
use Rattle.script_types.specs.declared.steps.ChunkInit.{ChunkInit}
use Rattle.script_types.specs.declared.steps.ChunkSource.{ChunkSource}
use Rattle.script_types.specs.declared.steps.ChunkSource.TheVariants as source
use Rattle.script_types.specs.declared.steps.SoundInit.{SoundInit}
use Rattle.script_types.specs.declared.steps.PictureInit.{PictureInit}
use Rattle.script_types.specs.declared.steps.BufferedInit.{BufferedInit}
use Rattle.script_types.specs.declared.steps.InitData.{InitData}
use Rattle.script_types.specs.declared.steps.InitData.TheVariants as init_data
use Rattle.script_types.specs.declared.steps.Variable.{Variable}
use Rattle.script_types.specs.declared.steps.VariableKind.{VariableKind}
use Rattle.script_types.specs.declared.steps.VariableKind.TheVariants as holds
use Rattle.script_types.specs.declared.steps.MediaStep.{MediaStep}
use Rattle.script_types.specs.declared.steps.MediaStep.TheVariants as media
use Rattle.script_types.specs.declared.steps.Step.{Step}
use Rattle.script_types.specs.declared.found.FoundVariable.{FoundVariable}
use Rattle.script_types.specs.declared.steps.Step.TheVariants as step
use Rattle.script_types.specs.Names.{is_name, decodes, inputs_of, outputs_of, is_codec_name, is_caller_name, variable_named, is_variable_name, is_chunk, is_promise, is_medium, is_buffer, is_copied, is_sized, posted_at}

-- ---- limits

abbrev pub most_codecs : ℕ
most_codecs = 64

abbrev pub most_callers : ℕ
most_callers = 16

abbrev pub most_steps : ℕ
most_steps = 100000

abbrev pub most_order : ℕ
most_order = 1000000

abbrev pub most_ports : ℕ
most_ports = 64

-- buffers that one init lists
abbrev pub most_transfer : ℕ
most_transfer = 16

-- bytes of one inline data, and of all
abbrev pub most_chunk : ℕ
most_chunk = 16777216

abbrev pub most_media : ℕ
most_media = 268435456

-- ---- codecs

abbrev pub is_sound_codec : List CodecItem → CodecItem → Bool
is_sound_codec before c = is_name c.name && (not (is_codec_name before c.name) && (nat_le 1 c.saturation && nat_le c.saturation 64))

-- each after those before it
abbrev pub are_sound_codecs : List CodecItem → List CodecItem → Bool
are_sound_codecs before [] = true
are_sound_codecs before (c ∷ cs) = is_sound_codec before c && are_sound_codecs (before ++ c ∷ []) cs

-- ---- references

-- the codec of this number is there, and its kind is the one that is needed
abbrev pub is_codec_kind : (Kind → Bool) → Option CodecItem → Bool
is_codec_kind right None = false
is_codec_kind right (Some c) = right c.kind

abbrev pub is_codec : List CodecItem → (Kind → Bool) → ℕ → Bool
is_codec codecs right on = is_codec_kind right (slice_get codecs on)

abbrev pub any_kind : Kind → Bool
any_kind k = true

abbrev pub encodes : Kind → Bool
encodes k = not (decodes k)

-- the variable is the one that was found
abbrev pub same_kind : VariableKind → VariableKind → Bool
same_kind holds.Chunk holds.Chunk = true
same_kind holds.Audio holds.Audio = true
same_kind holds.Frame holds.Frame = true
same_kind holds.Promise holds.Promise = true
same_kind holds.Buffer holds.Buffer = true
same_kind _ _ = false

abbrev pub is_found : Variable → Option FoundVariable → Bool
is_found v None = false
is_found v (Some f) = (f.step == v.step) && same_kind f.kind v.kind

-- an earlier step defines the variable, and it holds what is needed
abbrev pub is_variable : List Step → (VariableKind → Bool) → Variable → Bool
is_variable before right v = is_found v (variable_named before v.name) && right v.kind

-- a name for a variable, which no earlier step defines
abbrev pub is_free : List Step → List ℕ → Bool
is_free before bind = is_name bind && not (is_variable_name before bind)

-- ---- steps

-- the config is one of the codec's kind, or breaks a rule of WebIDL
abbrev pub suits : Config → Kind → Bool
suits (config.AudioDecoder c) kind.AudioDecoder = true
suits (config.AudioEncoder c) kind.AudioEncoder = true
suits (config.VideoDecoder c) kind.VideoDecoder = true
suits (config.VideoEncoder c) kind.VideoEncoder = true
suits config.Bad k = true
suits _ _ = false

-- the options are those of what the variable holds
abbrev pub are_options_of : Options → VariableKind → Bool
are_options_of (options.Audio o) holds.Audio = true
are_options_of (options.Frame o) holds.Frame = true
are_options_of options.Nothing holds.Chunk = true
are_options_of options.Nothing holds.Buffer = true
are_options_of _ _ = false

-- a codec of this kind gives outputs of this kind
abbrev pub gives : VariableKind → Kind → Bool
gives v k = same_kind (outputs_of k) v

-- a codec of this kind encodes what is of this kind
abbrev pub takes : VariableKind → Kind → Bool
takes v k = encodes k && same_kind (inputs_of k) v

-- the buffers that an init names are there, and it does not list too many
abbrev pub is_sound_data : List Step → InitData → Bool
is_sound_data before (init_data.Hex bytes) = true
is_sound_data before (init_data.Buffer v) = is_variable before is_buffer v

abbrev pub is_sound_init : List Step → BufferedInit → Bool
is_sound_init before i =
    is_sound_data before i.content && (nat_le (length i.transfer) most_transfer && list_all (is_variable before is_buffer) i.transfer)

abbrev pub is_sound_media : List CodecItem → List Step → MediaStep → Bool
is_sound_media codecs before (media.Audio bind init) = is_free before bind
is_sound_media codecs before (media.Frame bind init) = is_free before bind
is_sound_media codecs before (media.Buffer bind content) = is_free before bind
is_sound_media codecs before (media.Buffered bind init) = is_free before bind && is_sound_init before init
is_sound_media codecs before (media.Encode on content) = is_codec codecs (takes content.kind) on && is_variable before is_medium content
is_sound_media codecs before (media.Take on bind kind) = is_codec codecs (gives kind) on && is_free before bind
is_sound_media codecs before (media.Clone of bind) = is_variable before is_medium of && is_free before bind
is_sound_media codecs before (media.Transfer of bind) = is_variable before is_medium of && is_free before bind
is_sound_media codecs before (media.CloseData of) = is_variable before is_medium of
is_sound_media codecs before (media.Copy of options size) = is_variable before is_copied of && (are_options_of options of.kind && nat_le size most_chunk)
is_sound_media codecs before (media.Size of options) = is_variable before is_sized of && are_options_of options of.kind
is_sound_media codecs before (media.Post to content) = is_variable before is_medium content
is_sound_media codecs before (media.Receive from bind kind) = is_free before bind && is_medium kind

-- a step, after those before it
abbrev pub is_sound_step : List CodecItem → List Step → Step → Bool
is_sound_step codecs before (step.Configure on config) = is_codec codecs (suits config) on
is_sound_step codecs before (step.Chunk bind source) = is_free before bind
is_sound_step codecs before (step.Decode on chunk) = is_codec codecs decodes on && is_variable before is_chunk chunk
is_sound_step codecs before (step.Flush on bind) = is_codec codecs any_kind on && is_free before bind
is_sound_step codecs before (step.Poll promise) = is_variable before is_promise promise
is_sound_step codecs before (step.Await promise) = is_variable before is_promise promise
is_sound_step codecs before (step.Reset on) = is_codec codecs any_kind on
is_sound_step codecs before (step.Close on) = is_codec codecs any_kind on
is_sound_step codecs before (step.State on) = is_codec codecs any_kind on
is_sound_step codecs before (step.Ground on to) = is_codec codecs any_kind on
is_sound_step codecs before (step.Media s) = is_sound_media codecs before s

abbrev pub are_sound_steps : List CodecItem → List Step → List Step → Bool
are_sound_steps codecs before [] = true
are_sound_steps codecs before (s ∷ ss) = is_sound_step codecs before s && are_sound_steps codecs (before ++ s ∷ []) ss

-- ---- callers

abbrev pub is_sound_caller : List CodecItem → List CallerItem → CallerItem → Bool
is_sound_caller codecs before c =
    is_name c.name && (not (is_codec_name codecs c.name || is_caller_name before c.name) && are_sound_steps codecs [] c.steps)

abbrev pub are_sound_callers : List CodecItem → List CallerItem → List CallerItem → Bool
are_sound_callers codecs before [] = true
are_sound_callers codecs before (c ∷ cs) = is_sound_caller codecs before c && are_sound_callers codecs (before ++ c ∷ []) cs

-- ---- inline data

abbrev pub bytes_of_chunk : Option ChunkInit → ℕ
bytes_of_chunk None = 0
bytes_of_chunk (Some i) = length i.content

abbrev pub bytes_of_source : ChunkSource → ℕ
bytes_of_source (source.Init i) = bytes_of_chunk i
bytes_of_source (source.File file index) = 0

abbrev pub bytes_of_sound : Option SoundInit → ℕ
bytes_of_sound None = 0
bytes_of_sound (Some i) = length i.content

abbrev pub bytes_of_picture : Option PictureInit → ℕ
bytes_of_picture None = 0
bytes_of_picture (Some i) = length i.content

abbrev pub bytes_of_data : InitData → ℕ
bytes_of_data (init_data.Hex bytes) = length bytes
bytes_of_data (init_data.Buffer v) = 0

abbrev pub bytes_of_media : MediaStep → ℕ
bytes_of_media (media.Buffer bind content) = length content
bytes_of_media (media.Buffered bind init) = bytes_of_data init.content
bytes_of_media (media.Audio bind init) = bytes_of_sound init
bytes_of_media (media.Frame bind init) = bytes_of_picture init
bytes_of_media _ = 0

-- the bytes of inline data that a step holds
abbrev pub bytes_of_step : Step → ℕ
bytes_of_step (step.Chunk bind source) = bytes_of_source source
bytes_of_step (step.Media s) = bytes_of_media s
bytes_of_step _ = 0

abbrev pub are_small : CallerItem → Bool
are_small c = list_all (λ s. nat_le (bytes_of_step s) most_chunk) c.steps

abbrev pub bytes_of_caller : CallerItem → ℕ
bytes_of_caller c = sum_by bytes_of_step c.steps

-- ---- chunk files

-- with so many files mentioned before, how many are mentioned with this one: it is one of them, or the next one
abbrev pub next_file : ℕ → ℕ → Option ℕ
next_file n file = if nat_lt file n then Some n else if file == n then Some (n + 1) else None

abbrev pub source_after : ℕ → ChunkSource → Option ℕ
source_after n (source.Init i) = Some n
source_after n (source.File file index) = next_file n file

abbrev pub file_after : ℕ → Step → Option ℕ
file_after n (step.Chunk bind source) = source_after n source
file_after n _ = Some n

abbrev pub files_after : ℕ → List Step → Option ℕ
files_after n [] = Some n
files_after n (s ∷ ss) = option_and_then (λ m. files_after m ss) (file_after n s)

abbrev pub files_in : ℕ → List CallerItem → Option ℕ
files_in n [] = Some n
files_in n (c ∷ cs) = option_and_then (λ m. files_in m cs) (files_after n c.steps)

abbrev pub is_count : ℕ → Option ℕ → Bool
is_count n None = false
is_count n (Some m) = m == n

abbrev pub are_apart : List (List ℕ) → List (List ℕ) → Bool
are_apart before [] = true
are_apart before (t ∷ ts) = not (list_any (λ x. bytes_eq x t) before) && are_apart (before ++ t ∷ []) ts

-- the files all differ, and their numbers are in order of first mention
abbrev pub are_sound_files : List (List ℕ) → List CallerItem → Bool
are_sound_files files callers = are_apart [] files && is_count (length files) (files_in 0 callers)

-- ---- ports

-- a port, after the codecs, the callers and the ports before it
abbrev pub is_port_name : List PortItem → List ℕ → Bool
is_port_name ports name = list_any (λ p. bytes_eq p.name name) ports

abbrev pub is_sound_port : List CodecItem → List CallerItem → List PortItem → PortItem → Bool
is_sound_port codecs callers before p =
    is_name p.name && not (is_codec_name codecs p.name || (is_caller_name callers p.name || is_port_name before p.name))

abbrev pub are_sound_ports : List CodecItem → List CallerItem → List PortItem → List PortItem → Bool
are_sound_ports codecs callers before [] = true
are_sound_ports codecs callers before (p ∷ ps) = is_sound_port codecs callers before p && are_sound_ports codecs callers (before ++ p ∷ []) ps

-- the port of this number is there, and of this kind
abbrev pub is_port_of : VariableKind → Option PortItem → Bool
is_port_of kind None = false
is_port_of kind (Some p) = same_kind (posted_at p.of) kind

-- a step that posts or receives does so at a port of its kind
abbrev pub is_sound_use : List PortItem → Step → Bool
is_sound_use ports (step.Media (media.Post to content)) = is_port_of content.kind (slice_get ports to)
is_sound_use ports (step.Media (media.Receive from bind kind)) = is_port_of kind (slice_get ports from)
is_sound_use ports _ = true

abbrev pub are_sound_uses : List PortItem → List CallerItem → Bool
are_sound_uses ports callers = list_all (λ c. list_all (is_sound_use ports) c.steps) callers

-- ---- order

-- the item names one of so many codecs or callers
abbrev pub is_sound_item : ℕ → ℕ → OrderItem → Bool
is_sound_item codecs callers (order.Caller i) = nat_lt i callers
is_sound_item codecs callers (order.Start n) = nat_lt n codecs
is_sound_item codecs callers (order.Done n moment) = nat_lt n codecs
is_sound_item codecs callers (order.Turn n) = nat_lt n codecs
is_sound_item codecs callers (order.Reclaim n moment) = nat_lt n codecs

abbrev pub is_turn_of : ℕ → OrderItem → Bool
is_turn_of i (order.Caller n) = n == i
is_turn_of i _ = false

-- the callers from number i on stand in the order as often as they have steps
abbrev pub counts_agree : ℕ → List CallerItem → List OrderItem → Bool
counts_agree i [] items = true
counts_agree i (c ∷ cs) items = (count_by (is_turn_of i) items == length c.steps) && counts_agree (i + 1) cs items

abbrev pub is_sound_order : ℕ → List CallerItem → Option (List OrderItem) → Bool
is_sound_order codecs callers None = true
is_sound_order codecs callers (Some items) =
    nat_le (length items) most_order && (list_all (is_sound_item codecs (length callers)) items && counts_agree 0 callers items)

-- ---- the script

abbrev pub are_few : List CodecItem → List CallerItem → Bool
are_few codecs callers = nat_le (length codecs) most_codecs && (nat_le (length callers) most_callers && nat_le (sum_by (λ c. length c.steps) callers) most_steps)

-- no inline data is above its limit, nor are the bytes of all, of which some may stand in inits that break a rule of WebIDL
abbrev pub is_small_media : ℕ → List CallerItem → Bool
is_small_media inline callers = list_all are_small callers && (nat_le (sum_by bytes_of_caller callers) inline && nat_le inline most_media)

abbrev pub is_sound : ScriptData → Bool
is_sound s =
    are_sound_codecs [] s.codecs && (are_sound_callers s.codecs [] s.callers && (are_few s.codecs s.callers
    && (is_small_media s.inline s.callers && (are_sound_files s.chunk_files s.callers && (is_sound_order (length s.codecs) s.callers s.order
    && (nat_le (length s.ports) most_ports && (are_sound_ports s.codecs s.callers [] s.ports && are_sound_uses s.ports s.callers)))))))
