-- What the names in a step name, and the new name that it may give.
use Rattle.std.specs.Prelude.{ℕ, Bool, List, codes, if◌then◌else◌, Option, Some, None, option_and_then, Result, Ok, Err}
use Rattle.serde_json.specs.Data.{Data}
use Rattle.wc_config.specs.declared.kind.Kind.{Kind}
use Rattle.wc_config.specs.declared.kind.Kind.TheVariants as kinds
use Rattle.script_types.specs.declared.script.CodecItem.{CodecItem}
use Rattle.script_types.specs.declared.found.FoundCodec.{FoundCodec}
use Rattle.script_types.specs.declared.found.FoundVariable.{FoundVariable}
use Rattle.script_types.specs.declared.steps.Step.{Step}
use Rattle.script_types.specs.declared.steps.Variable.{Variable}
use Rattle.script_types.specs.declared.steps.VariableKind.{VariableKind}
use Rattle.wc_base.specs.declared.ground.Ground.{Ground}
use Rattle.script_types.specs.Names.{ground_named, codec_named, variable_named, is_variable_name, is_chunk, is_audio, is_frame, is_medium, is_copied, is_promise, is_buffer, is_sized}
use Rattle.script_types.specs.Sound.{encodes}
use Rattle.chunk_files.specs.declared.fault.Stop.{Stop}
use Rattle.script_types.specs.declared.fault.Wrong.{Wrong}
use Rattle.chunk_files.specs.declared.fault.Stop.TheVariants as stop
use Rattle.script_types.specs.declared.fault.Wrong.TheVariants as wrong
use Rattle.script_steps.specs.Members.{and_then, needed as there, known, expected, text_in, name_in}
use Rattle.script_steps.specs.declared.references.Needed.{Needed}
use Rattle.script_steps.specs.declared.references.Needed.TheVariants as needed

-- what a step needs a variable to hold
abbrev pub is_right : Needed → VariableKind → Bool
is_right needed.Chunk = is_chunk
is_right needed.Audio = is_audio
is_right needed.Frame = is_frame
is_right needed.Medium = is_medium
is_right needed.Copied = is_copied
is_right needed.Promise = is_promise
is_right needed.Buffer = is_buffer
is_right needed.Sized = is_sized

-- a name that no step before defines
abbrev pub unused : List Step → List ℕ → Result (List ℕ) (Stop Wrong)
unused before name = if is_variable_name before name then Err (stop.Fault wrong.Twice) else Ok name

-- the codec of this name, if there is one; another kind than the one that is needed is a fault of shape
abbrev pub codec_if : (Kind → Bool) → List CodecItem → List ℕ → Result (Option FoundCodec) (Stop Wrong)
codec_if right codecs name = expected (λ c. right c.kind) (codec_named codecs name)

-- the variable of this name, if there is one; another kind than the one that is needed is a fault of shape
abbrev pub variable_if : Needed → List Step → List ℕ → Result (Option FoundVariable) (Stop Wrong)
variable_if kind before name = expected (λ v. is_right kind v.kind) (variable_named before name)

abbrev pub variable_of : List ℕ → FoundVariable → Variable
variable_of name found = record { name = name; step = found.step; kind = found.kind }

-- the variable that a step names, where it names nothing else
abbrev pub variable_in : List ℕ → Needed → List Step → Data → Result Variable (Stop Wrong)
variable_in key kind before d =
    and_then (name_in key d) (λ name. and_then (variable_if kind before name) (λ maybe_variable.
    and_then (known maybe_variable) (λ found. Ok (variable_of name found))))

-- the codec that a step names, where it names nothing else
abbrev pub on_of : List CodecItem → Data → Result ℕ (Stop Wrong)
on_of codecs d = and_then (name_in (codes "on") d) (λ on. and_then (known (codec_named codecs on)) (λ codec. Ok codec.number))

-- where a codec is said to be at work
abbrev pub ground_in : Data → Option Ground
ground_in d = option_and_then ground_named (text_in (codes "to") d)

-- a codec of any kind, and where it is at work
abbrev pub ground_on : List CodecItem → Data → Result (ℕ × Ground) (Stop Wrong)
ground_on codecs d =
    and_then (name_in (codes "on") d) (λ on. and_then (there (ground_in d)) (λ to.
    and_then (known (codec_named codecs on)) (λ codec. Ok (codec.number, to))))

-- a codec of any kind, and a new name
abbrev pub bound_on : List CodecItem → List Step → Data → Result (FoundCodec × List ℕ) (Stop Wrong)
bound_on codecs before d =
    and_then (name_in (codes "on") d) (λ on. and_then (name_in (codes "as") d) (λ name.
    and_then (unused before name) (λ bind. and_then (known (codec_named codecs on)) (λ codec. Ok (codec, bind)))))

-- a codec of the kind that is needed, and what it is given
abbrev pub given_to : (Kind → Bool) → List ℕ → Needed → List CodecItem → List Step → Data → Result (ℕ × Variable) (Stop Wrong)
given_to right key kind codecs before d =
    and_then (name_in (codes "on") d) (λ on. and_then (name_in key d) (λ name.
    and_then (codec_if right codecs on) (λ maybe_codec. and_then (variable_if kind before name) (λ maybe_variable.
    and_then (known maybe_codec) (λ codec. and_then (known maybe_variable) (λ found.
    Ok (codec.number, variable_of name found)))))))

-- what an encode is given, by the codec's kind and by the codec that was found; where none was, any medium
abbrev pub encoded_by_kind : Kind → Needed
encoded_by_kind kinds.AudioEncoder = needed.Audio
encoded_by_kind kinds.VideoEncoder = needed.Frame
encoded_by_kind _ = needed.Medium

abbrev pub encoded_by : Option FoundCodec → Needed
encoded_by None = needed.Medium
encoded_by (Some codec) = encoded_by_kind codec.kind

-- an encoder, and the medium that it is given
abbrev pub encoded_data : List CodecItem → List Step → Data → Result (ℕ × Variable) (Stop Wrong)
encoded_data codecs before d =
    and_then (name_in (codes "on") d) (λ on. and_then (name_in (codes "data") d) (λ name.
    and_then (codec_if encodes codecs on) (λ maybe_codec. and_then (variable_if (encoded_by maybe_codec) before name) (λ maybe_variable.
    and_then (known maybe_codec) (λ codec. and_then (known maybe_variable) (λ found.
    Ok (codec.number, variable_of name found)))))))

-- a medium, and a new name
abbrev pub bound_from : List Step → Data → Result (Variable × List ℕ) (Stop Wrong)
bound_from before d =
    and_then (name_in (codes "of") d) (λ of. and_then (name_in (codes "as") d) (λ name.
    and_then (variable_if needed.Medium before of) (λ maybe_variable. and_then (unused before name) (λ bind.
    and_then (known maybe_variable) (λ found. Ok (variable_of of found, bind))))))
