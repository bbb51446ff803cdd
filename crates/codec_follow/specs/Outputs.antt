-- The outputs that a codec may show, by its kind (W3C WebCodecs, the output callbacks of AudioDecoder, AudioEncoder,
-- VideoDecoder and VideoEncoder).
use Rattle.std.specs.Prelude.{ℕ, ◌≡◌, ◌<◌, ◌||◌, Bool, true, false, pos, List, [], ◌∷◌, Option, Some, None, is_some}
use Rattle.wc_base.specs.declared.media.SampleFormat.TheVariants as sample
use Rattle.wc_base.specs.declared.media.PictureFormat.TheVariants as picture
use Rattle.wc_config.specs.declared.config.AudioDecoderConfig.{AudioDecoderConfig}
use Rattle.wc_config.specs.declared.config.Config.{Config}
use Rattle.wc_config.specs.declared.config.Config.TheVariants as config
use Rattle.wc_config.specs.Configs.{audio_codec, video_codec}
use Rattle.codec_definitions.specs.declared.unit.Unit as media
use Rattle.codec_definitions.specs.declared.unit.Unit.TheVariants as unit
use Rattle.wc_config.specs.declared.kind.Kind.{Kind}
use Rattle.wc_config.specs.declared.kind.Kind.TheVariants as kind
use Rattle.codec_model.specs.declared.entry.Call.TheVariants as call
use Rattle.codec_model.specs.declared.entry.Entry.{Entry}
use Rattle.codec_model.specs.declared.entry.Entry.TheVariants as entry

-- a codec string of a codec that is known
abbrev pub is_codec_string : List ℕ → Bool
is_codec_string text = is_some (audio_codec text) || is_some (video_codec text)

-- a description that is there has bytes
abbrev pub IsPlainDescription : Option (List ℕ) → Type 0
IsPlainDescription None = Unit {0}
IsPlainDescription (Some []) = ⊥
IsPlainDescription (Some (b ∷ bs)) = Unit {0}

-- a decoder's config that an encoded output carries, if it carries one, names a known codec
abbrev pub IsPlainConfig : Option AudioDecoderConfig → Type 0
IsPlainConfig None = Unit {0}
IsPlainConfig (Some c) = (is_codec_string c.codec ≡ true) × IsPlainDescription c.description

-- an audio decoder gives samples, whose rate is above 0; an audio encoder gives chunks; a video decoder gives pictures; a video
-- encoder gives chunks that carry no config
abbrev pub IsOutputOf : Kind → media.Unit → Type 0
IsOutputOf kind.AudioDecoder (unit.Sound samples) = 0 < samples.shape.rate
IsOutputOf kind.AudioEncoder (unit.Coded chunk config) = IsPlainConfig config
IsOutputOf kind.VideoDecoder (unit.Image picture) = Unit {0}
IsOutputOf kind.VideoEncoder (unit.Coded chunk None) = Unit {0}
IsOutputOf k u = ⊥

-- the config is one of the codec's kind, or breaks a rule of WebIDL
abbrev pub IsConfigOf : Kind → Config → Type 0
IsConfigOf kind.AudioDecoder (config.AudioDecoder c) = Unit {0}
IsConfigOf kind.AudioEncoder (config.AudioEncoder c) = Unit {0}
IsConfigOf kind.VideoDecoder (config.VideoDecoder c) = Unit {0}
IsConfigOf kind.VideoEncoder (config.VideoEncoder c) = Unit {0}
IsConfigOf k config.Bad = Unit {0}
IsConfigOf k c = ⊥

-- an entry that keeps a configure has such a config
abbrev pub ConfiguresAs : Kind → Entry → Type 0
ConfiguresAs k (entry.Call who (call.Configure config)) = IsConfigOf k config
ConfiguresAs k e = Unit {0}

-- an output of this kind with nothing in it
abbrev pub empty_output : Kind → media.Unit
empty_output kind.AudioDecoder = unit.Sound (record { shape = record { format = sample.U8; rate = 1; channels = 1; frames = 0; timestamp = pos 0 }; bytes = [] })
empty_output kind.AudioEncoder = unit.Coded (record { key = false; timestamp = pos 0; duration = None; bytes = [] }) None
empty_output kind.VideoDecoder = unit.Image (record { shape = record { format = picture.I420; width = 0; height = 0; timestamp = pos 0; duration = None }; bytes = [] })
empty_output kind.VideoEncoder = unit.Coded (record { key = false; timestamp = pos 0; duration = None; bytes = [] }) None
