-- What a codec's definition gives for a list of commands.
use Rattle.std.specs.Prelude.{Bool, true, false, List, [], ◌∷◌, ◌++◌, Option, Some, None}
use Rattle.wc_config.specs.declared.codec.CoderId.{CoderId}
use Rattle.wc_config.specs.declared.codec.CodecId.{CodecId}
use Rattle.wc_config.specs.declared.codec.CodecId.TheVariants as codec
use Rattle.wc_config.specs.declared.config.AudioDecoderConfig.{AudioDecoderConfig}
use Rattle.wc_config.specs.declared.config.AudioEncoderConfig.{AudioEncoderConfig}
use Rattle.wc_config.specs.declared.config.Config.{Config}
use Rattle.wc_config.specs.declared.config.Config.TheVariants as config
use Rattle.codec_definitions.specs.declared.unit.Unit as unit
use Rattle.codec_definitions.specs.declared.command.Command.{Command}
use Rattle.codec_definitions.specs.declared.command.Command.TheVariants as command
use Rattle.codec_definitions.specs.SampleCodecs.{SampleCodec, sample_codec, sample_decoder, sample_encoder}
use Rattle.codec_definitions.specs.Flac.{described, flac_decoder}
use Rattle.codec_definitions.specs.FlacEncoder.{blocks_answer}
use Rattle.codec_definitions.specs.RawVideo.{raw_shape, raw_decoder}
use Rattle.codec_definitions.specs.RawVideoEncoder.{coded_shape, raw_encoder}

-- no codec: a drain gives nothing, since nothing was taken, and any other command is refused
abbrev pub undefined_answer : Command → Option (List unit.Unit)
undefined_answer command.Drain = Some []
undefined_answer x = None

abbrev pub sample_decoder_by : Option SampleCodec → AudioDecoderConfig → Command → Option (List unit.Unit)
sample_decoder_by None c x = undefined_answer x
sample_decoder_by (Some s) c x = sample_decoder s c x

abbrev pub sample_encoder_by : Option SampleCodec → AudioEncoderConfig → Command → Option (List unit.Unit)
sample_encoder_by None c x = undefined_answer x
sample_encoder_by (Some s) c x = sample_encoder s c x

abbrev pub audio_decoder_answer : CodecId → AudioDecoderConfig → Command → Option (List unit.Unit)
audio_decoder_answer codec.Flac c x = flac_decoder (described c.description) x
audio_decoder_answer k c x = sample_decoder_by (sample_codec k) c x

abbrev pub audio_encoder_answer : CodecId → AudioEncoderConfig → List Command → Command → Option (List unit.Unit)
audio_encoder_answer codec.Flac c before x = blocks_answer c before x
audio_encoder_answer k c before x = sample_encoder_by (sample_codec k) c x

-- the units that a command gives after those before it, of which none was refused; none where it is refused. A drain never is.
abbrev pub answer_after : CoderId → Config → List Command → Command → Option (List unit.Unit)
answer_after id (config.AudioDecoder c) before x = audio_decoder_answer id.codec c x
answer_after id (config.AudioEncoder c) before x = audio_encoder_answer id.codec c before x
answer_after id (config.VideoDecoder c) before x = raw_decoder (raw_shape id.codec c) before x
answer_after id (config.VideoEncoder c) before x = raw_encoder (coded_shape id.codec c) c.key_interval before x
answer_after id config.Bad before x = undefined_answer x

-- an answer and those after it, of which a refusal leaves none
abbrev pub until_refused : Option (List unit.Unit) → List (Option (List unit.Unit)) → List (Option (List unit.Unit))
until_refused None rest = None ∷ []
until_refused (Some units) rest = Some units ∷ rest

-- the answers to commands one after another, after those before them, up to the first refusal
abbrev pub answers_from : CoderId → Config → List Command → List Command → List (Option (List unit.Unit))
answers_from id c before [] = []
answers_from id c before (x ∷ xs) = until_refused (answer_after id c before x) (answers_from id c (before ++ x ∷ []) xs)

-- a codec's definition over the whole list of inputs and drains since its configuration
abbrev pub answers : CoderId → Config → List Command → List (Option (List unit.Unit))
answers id c commands = answers_from id c [] commands

-- all units of answers
abbrev pub units_of : List (Option (List unit.Unit)) → List unit.Unit
units_of [] = []
units_of (None ∷ rest) = units_of rest
units_of (Some units ∷ rest) = units ++ units_of rest

-- the last answer
abbrev pub last_answer : List (Option (List unit.Unit)) → Option (List unit.Unit)
last_answer [] = None
last_answer (x ∷ []) = x
last_answer (x ∷ y ∷ ys) = last_answer (y ∷ ys)

-- one of the answers is a refusal
abbrev pub is_refused_in : List (Option (List unit.Unit)) → Bool
is_refused_in [] = false
is_refused_in (None ∷ rest) = true
is_refused_in (Some units ∷ rest) = is_refused_in rest
