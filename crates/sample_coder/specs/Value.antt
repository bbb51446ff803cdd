-- A sample coder as contracts see it.
use Rattle.std.specs.Prelude.{◌≡◌, ◌<◌, ◌≤◌, false, Option, None, List}
use Rattle.wc_config.specs.declared.codec.CoderId.{CoderId}
use Rattle.wc_config.specs.declared.config.Config.TheVariants as config
use Rattle.wc_config.specs.Configs.{audio_codec, is_flac}
use Rattle.codec_definitions.specs.declared.unit.Unit as unit
use Rattle.codec_definitions.specs.declared.command.Command.{Command}
use Rattle.codec_definitions.specs.SampleCodecs.{sample_decoder, sample_encoder}
use Rattle.coder_api.specs.Meaning.{Meaning, Stopped, Configured, new_state}
use Rattle.sample_coder.specs.declared.coder.Setting.{Setting}
use Rattle.sample_coder.specs.declared.coder.Setting.TheVariants as setting
use Rattle.sample_coder.specs.declared.coding.Coding.{Coding}
use Rattle.sample_coder.specs.Coding.{definition}

-- its id and meaning
pub record CoderValue : Type 0 where
  pub id : CoderId
  pub meaning : Meaning

abbrev pub meaning_of : Setting → Meaning
meaning_of setting.Stopped = Stopped
meaning_of (setting.Decoder c) = Configured (config.AudioDecoder c) new_state
meaning_of (setting.Encoder c) = Configured (config.AudioEncoder c) new_state

-- what the codec's definition says of a command
abbrev pub answer_in : Coding → Setting → Command → Option (List unit.Unit)
answer_in k setting.Stopped x = None
answer_in k (setting.Decoder c) x = sample_decoder (definition k) c x
answer_in k (setting.Encoder c) x = sample_encoder (definition k) c x

-- rate and channels are in the bounds of a config that is supported, and an encoder is of no codec with a description
abbrev pub IsInRange : Setting → Type 0
IsInRange setting.Stopped = Unit {0}
IsInRange (setting.Decoder c) = (0 < c.rate) × (0 < c.channels) × (c.channels ≤ 32)
IsInRange (setting.Encoder c) = (0 < c.rate) × (0 < c.channels) × (c.channels ≤ 32) × (is_flac (audio_codec c.codec) ≡ false)
