-- The step of media resources that an object spells.
use Rattle.std.specs.Prelude.{ℕ, nat_le, List, codes, if◌then◌else◌, Option, Some, None, option_and_then, Result, Ok}
use Rattle.serde_json.specs.Data.{Data}
use Rattle.serde_json.specs.Find.{get}
use Rattle.script_types.specs.declared.script.CodecItem.{CodecItem}
use Rattle.script_types.specs.declared.found.FoundVariable.{FoundVariable}
use Rattle.script_types.specs.declared.options.Options.{Options}
use Rattle.script_types.specs.declared.options.Options.TheVariants as options
use Rattle.script_types.specs.declared.script.PortItem.{PortItem}
use Rattle.script_types.specs.declared.steps.BufferedInit.{BufferedInit}
use Rattle.script_types.specs.declared.steps.VariableKind.TheVariants as holds
use Rattle.script_types.specs.declared.steps.Step.{Step}
use Rattle.script_types.specs.declared.steps.MediaStep.{MediaStep}
use Rattle.script_types.specs.declared.steps.MediaStep.TheVariants as media
use Rattle.script_types.specs.Names.{outputs_of}
use Rattle.script_types.specs.Sound.{most_chunk}
use Rattle.chunk_files.specs.declared.fault.Stop.{Stop}
use Rattle.script_types.specs.declared.fault.Wrong.{Wrong}
use Rattle.script_steps.specs.Members.{and_then, needed as there, known, name_in, object_in, object_if_there, natural_of}
use Rattle.script_steps.specs.Media.{data_of_init, sound_of, picture_of}
use Rattle.script_steps.specs.Buffers.{has_buffers, buffered_of}
use Rattle.script_steps.specs.Ports.{post_of, receive_of}
use Rattle.script_steps.specs.CopyOptions.{options_for}
use Rattle.script_steps.specs.declared.words.MediaWord.{MediaWord}
use Rattle.script_steps.specs.declared.words.MediaWord.TheVariants as medium
use Rattle.script_steps.specs.declared.references.Needed.TheVariants as needed
use Rattle.script_steps.specs.References.{unused, variable_if, variable_of, variable_in, bound_on, encoded_data, bound_from}

-- a step whose init names buffers; without a value of the init it is the one that is refused
abbrev pub made_with : (List ℕ → MediaStep) → List ℕ × Option BufferedInit → MediaStep
made_with refused b = elim (b.1) [ None ↦ refused b.0 | Some i ↦ media.Buffered b.0 i ]

abbrev pub plain_audio_of : List Step → Data → Result MediaStep (Stop Wrong)
plain_audio_of before d =
    and_then (name_in (codes "as") d) (λ name. and_then (object_in (codes "init") d) (λ object.
    and_then (sound_of object) (λ init. and_then (unused before name) (λ bind. Ok (media.Audio bind init)))))

abbrev pub audio_of : List Step → Data → Result MediaStep (Stop Wrong)
audio_of before d =
    if has_buffers d then and_then (buffered_of holds.Audio before d) (λ b. Ok (made_with (λ bind. media.Audio bind None) b))
    else plain_audio_of before d

abbrev pub plain_frame_of : List Step → Data → Result MediaStep (Stop Wrong)
plain_frame_of before d =
    and_then (name_in (codes "as") d) (λ name. and_then (object_in (codes "init") d) (λ object.
    and_then (picture_of object) (λ init. and_then (unused before name) (λ bind. Ok (media.Frame bind init)))))

abbrev pub frame_of : List Step → Data → Result MediaStep (Stop Wrong)
frame_of before d =
    if has_buffers d then and_then (buffered_of holds.Frame before d) (λ b. Ok (made_with (λ bind. media.Frame bind None) b))
    else plain_frame_of before d

-- the bytes of a buffer, as hex text
abbrev pub buffer_of : List Step → Data → Result MediaStep (Stop Wrong)
buffer_of before d =
    and_then (name_in (codes "as") d) (λ name. and_then (there (data_of_init d)) (λ content.
    and_then (unused before name) (λ bind. Ok (media.Buffer bind content))))

abbrev pub encode_of : List CodecItem → List Step → Data → Result MediaStep (Stop Wrong)
encode_of codecs before d = and_then (encoded_data codecs before d) (λ g. Ok (media.Encode g.0 g.1))

abbrev pub take_of : List CodecItem → List Step → Data → Result MediaStep (Stop Wrong)
take_of codecs before d = and_then (bound_on codecs before d) (λ b. Ok (media.Take b.0.number b.1 (outputs_of b.0.kind)))

abbrev pub clone_of : List Step → Data → Result MediaStep (Stop Wrong)
clone_of before d = and_then (bound_from before d) (λ b. Ok (media.Clone b.0 b.1))

abbrev pub transfer_of : List Step → Data → Result MediaStep (Stop Wrong)
transfer_of before d = and_then (bound_from before d) (λ b. Ok (media.Transfer b.0 b.1))

abbrev pub close_data_of : List Step → Data → Result MediaStep (Stop Wrong)
close_data_of before d = and_then (variable_in (codes "of") needed.Medium before d) (λ v. Ok (media.CloseData v))

-- ---- copies

-- a count of bytes within the limit
abbrev pub checked_size : ℕ → Option ℕ
checked_size n = if nat_le n most_chunk then Some n else None

abbrev pub size_in : Data → Result ℕ (Stop Wrong)
size_in d = there (option_and_then checked_size (option_and_then natural_of (get (codes "size") d)))

-- the options of a variable that was found; for another they have to be an object, if they are there
abbrev pub options_in : Option FoundVariable → Data → Result Options (Stop Wrong)
options_in None d = and_then (object_if_there (get (codes "options") d)) (λ o. Ok options.Nothing)
options_in (Some found) d = options_for found.kind (get (codes "options") d)

abbrev pub copy_of : List Step → Data → Result MediaStep (Stop Wrong)
copy_of before d =
    and_then (name_in (codes "of") d) (λ of. and_then (size_in d) (λ size.
    and_then (variable_if needed.Copied before of) (λ maybe_variable. and_then (options_in maybe_variable d) (λ options.
    and_then (known maybe_variable) (λ found. Ok (media.Copy (variable_of of found) options size))))))

abbrev pub size_of : List Step → Data → Result MediaStep (Stop Wrong)
size_of before d =
    and_then (name_in (codes "of") d) (λ of.
    and_then (variable_if needed.Sized before of) (λ maybe_variable. and_then (options_in maybe_variable d) (λ options.
    and_then (known maybe_variable) (λ found. Ok (media.Size (variable_of of found) options)))))

-- ---- by the word

abbrev pub media_by : List CodecItem → List (Option PortItem) → List Step → Data → MediaWord → Result MediaStep (Stop Wrong)
media_by codecs ports before d medium.Audio = audio_of before d
media_by codecs ports before d medium.Frame = frame_of before d
media_by codecs ports before d medium.Buffer = buffer_of before d
media_by codecs ports before d medium.Encode = encode_of codecs before d
media_by codecs ports before d medium.Take = take_of codecs before d
media_by codecs ports before d medium.Clone = clone_of before d
media_by codecs ports before d medium.Transfer = transfer_of before d
media_by codecs ports before d medium.CloseData = close_data_of before d
media_by codecs ports before d medium.Copy = copy_of before d
media_by codecs ports before d medium.Size = size_of before d
media_by codecs ports before d medium.Post = post_of ports before d
media_by codecs ports before d medium.Receive = receive_of ports before d
