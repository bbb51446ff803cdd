-- The encoder of FLAC as contracts see it.
use Rattle.std.specs.Prelude.{◌<◌, ◌≡◌, ◌%◌, ◌^◌, List, length, Option, None}
use Rattle.wc_config.specs.declared.codec.CoderId.{CoderId}
use Rattle.wc_config.specs.declared.codec.CodecId.TheVariants as codec
use Rattle.wc_config.specs.declared.codec.Role.TheVariants as role
use Rattle.wc_config.specs.declared.config.Config.TheVariants as config
use Rattle.codec_definitions.specs.declared.unit.Unit as unit
use Rattle.codec_definitions.specs.declared.command.Command.{Command}
use Rattle.codec_definitions.specs.FlacCode.{block_samples}
use Rattle.codec_definitions.specs.FlacEncoder.{Kept}
use Rattle.coder_api.specs.Meaning.{Meaning, Stopped, Configured, SamplesKept}
use Rattle.flac_definitions.specs.SubframeWriting.{HaveDepth}
use Rattle.flac_encode.specs.declared.encoder.Encoder.{Encoder}
use Rattle.flac_encode.specs.declared.coder.Setting.{Setting}
use Rattle.flac_encode.specs.declared.coder.Setting.TheVariants as setting
use Rattle.flac_encode.specs.Steps.{IsRanged, step_answer, step_after}

pub record EncoderValue : Type 0 where
  pub meaning : Meaning

-- the one id that it serves
abbrev pub encoder_id : CoderId
encoder_id = record { role = role.Encode; codec = codec.Flac }

abbrev pub state_of : Encoder → Kept
state_of e = record { rest = e.rest.items; origin = e.origin; offset = e.offset; number = e.number }

-- what is true of a configured encoder: it keeps whole frames, fewer than a block, of the config's depth
pub record IsReady (e : Encoder) : Type 0 where
  pub ranged : IsRanged e.config
  pub whole : length e.rest.items % e.config.channels ≡ 0
  pub short : length e.rest.items < block_samples e.config
  pub fit : HaveDepth e.config.depth e.rest.items
  pub number : e.number < 2 ^ 31

abbrev pub meaning_of : Setting → Meaning
meaning_of setting.Stopped = Stopped
meaning_of (setting.Encoder e) = Configured (config.AudioEncoder e.config) (SamplesKept (state_of e))

abbrev pub IsInRange : Setting → Type 0
IsInRange setting.Stopped = Unit {0}
IsInRange (setting.Encoder e) = IsReady e

-- what a command gives by what is kept, and what the encoder is after it
abbrev pub answer_in : Setting → Command → Option (List unit.Unit)
answer_in setting.Stopped x = None
answer_in (setting.Encoder e) x = step_answer e.config (state_of e) x

abbrev pub after_in : Setting → Command → Meaning
after_in setting.Stopped x = Stopped
after_in (setting.Encoder e) x = Configured (config.AudioEncoder e.config) (SamplesKept (step_after e.config (state_of e) x))
