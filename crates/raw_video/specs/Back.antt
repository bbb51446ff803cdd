-- Pictures that are coded, and decoded again.
use Rattle.std.specs.Prelude.{◌≡◌, false, List, [], ◌∷◌, ◌++◌, map, Option, Some, None}
use Rattle.std.specs.List.{All}
use Rattle.wc_config.specs.declared.codec.CoderId.{CoderId}
use Rattle.wc_config.specs.declared.codec.CodecId.{CodecId}
use Rattle.wc_config.specs.declared.codec.Role.TheVariants as role
use Rattle.wc_config.specs.declared.config.VideoDecoderConfig.{VideoDecoderConfig}
use Rattle.wc_config.specs.declared.config.VideoEncoderConfig.{VideoEncoderConfig}
use Rattle.wc_config.specs.declared.config.Config.TheVariants as config
use Rattle.codec_definitions.specs.declared.unit.Unit as unit
use Rattle.codec_definitions.specs.declared.unit.Unit.TheVariants as unit_of
use Rattle.codec_definitions.specs.declared.command.Command.{Command}
use Rattle.codec_definitions.specs.declared.command.Command.TheVariants as command
use Rattle.codec_definitions.specs.Answers.{answers, is_refused_in}
use Rattle.raw_video.specs.Value.{AreBytes}

-- the chunks among units
abbrev pub chunks_in : List unit.Unit → List Command
chunks_in [] = []
chunks_in (unit_of.Coded chunk config ∷ us) = command.Chunk chunk ∷ chunks_in us
chunks_in (u ∷ us) = chunks_in us

-- what a decoder is given of a command of an encoder and of the answer to it: the chunks, and each drain
abbrev pub passed_on : Command → Option (List unit.Unit) → List Command
passed_on command.Drain answer = command.Drain ∷ []
passed_on x None = []
passed_on x (Some units) = chunks_in units

abbrev pub all_passed_on : List Command → List (Option (List unit.Unit)) → List Command
all_passed_on (x ∷ xs) (a ∷ rest) = passed_on x a ++ all_passed_on xs rest
all_passed_on xs rest = []

-- a picture comes back as it was; a drain gives nothing
abbrev pub comes_back : Command → Option (List unit.Unit)
comes_back (command.Image picture) = Some (unit_of.Image picture ∷ [])
comes_back x = Some []

-- a picture's bytes are numbers of 8 bits
abbrev pub IsOfBytes : Command → Type 0
IsOfBytes (command.Image picture) = AreBytes picture.bytes
IsOfBytes x = Unit {0}

abbrev pub encodes : CodecId → CoderId
encodes k = record { role = role.Encode; codec = k }

abbrev pub decodes : CodecId → CoderId
decodes k = record { role = role.Decode; codec = k }

-- Where an encoder's definition takes all of its commands, the definition of a decoder of the same codec and size, given the chunks
-- and drained where the encoder is, answers with the pictures.
abbrev pub PicturesComeBack : Type 0
PicturesComeBack = (k : CodecId) (c : VideoEncoderConfig) (d : VideoDecoderConfig) (commands : List Command) →
    d.width ≡ Some c.width → d.height ≡ Some c.height → All IsOfBytes commands →
    is_refused_in (answers (encodes k) (config.VideoEncoder c) commands) ≡ false →
    answers (decodes k) (config.VideoDecoder d) (all_passed_on commands (answers (encodes k) (config.VideoEncoder c) commands)) ≡ map comes_back commands
