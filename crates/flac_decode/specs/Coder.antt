-- The decoder as contracts see it.
use Rattle.std.specs.Prelude.{◌≡◌, Option, Some, None, Result, Ok, Err, List, [], ◌∷◌}
use Rattle.wc_config.specs.declared.codec.CoderId.{CoderId}
use Rattle.wc_config.specs.declared.codec.CodecId.TheVariants as codec
use Rattle.wc_config.specs.declared.codec.Role.TheVariants as role
use Rattle.wc_config.specs.declared.config.Config.TheVariants as config
use Rattle.codec_definitions.specs.declared.unit.Unit as unit
use Rattle.codec_definitions.specs.declared.command.Command.{Command}
use Rattle.coder_api.specs.declared.coder.CoderFault.{CoderFault}
use Rattle.coder_api.specs.declared.coder.CoderFault.TheVariants as fault
use Rattle.codec_definitions.specs.Answers.{audio_decoder_answer}
use Rattle.codec_definitions.specs.Flac.{described}
use Rattle.coder_api.specs.Meaning.{Meaning, Stopped, Configured, new_state}
use Rattle.flac_decode.specs.declared.coder.Setting.{Setting}
use Rattle.flac_decode.specs.declared.coder.Setting.TheVariants as setting

pub record DecoderValue : Type 0 where
  pub meaning : Meaning

-- the one id that it serves
abbrev pub decoder_id : CoderId
decoder_id = record { role = role.Decode; codec = codec.Flac }

abbrev pub meaning_of : Setting → Meaning
meaning_of setting.Stopped = Stopped
meaning_of (setting.Decoder c info) = Configured (config.AudioDecoder c) new_state

-- what the codec's definition says of a command
abbrev pub answer_in : Setting → Command → Option (List unit.Unit)
answer_in setting.Stopped x = None
answer_in (setting.Decoder c info) x = audio_decoder_answer codec.Flac c x

-- what was read of the config's description
abbrev pub IsDescribed : Setting → Type 0
IsDescribed setting.Stopped = Unit {0}
IsDescribed (setting.Decoder c info) = described c.description ≡ Some info

-- what a chunk's decoding answered, by the definition's units
abbrev pub GivesUnit : Option (List unit.Unit) → Result unit.Unit CoderFault → Type 0
GivesUnit answer (Ok u) = answer ≡ Some (u ∷ [])
GivesUnit answer (Err fault.Refused) = answer ≡ None
GivesUnit answer (Err fault.NoMemory) = Unit {0}
