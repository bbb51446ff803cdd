-- The config that an object spells, by the codec's kind (W3C WebCodecs, AudioDecoderConfig, AudioEncoderConfig,
-- VideoDecoderConfig, VideoEncoderConfig, and the FLAC registration's FlacEncoderConfig; `bitsPerSample` and `keyInterval` are our own).
use Rattle.std.specs.Prelude.{ℕ, List, Option, Some, option_and_then, Result, Ok, codes}
use Rattle.serde_json.specs.Data.{Data}
use Rattle.serde_json.specs.Find.{get}
use Rattle.wc_config.specs.declared.config.Config.{Config}
use Rattle.wc_config.specs.declared.config.Config.TheVariants as config
use Rattle.chunk_files.specs.declared.fault.Stop.{Stop}
use Rattle.script_types.specs.declared.fault.Wrong.{Wrong}
use Rattle.wc_config.specs.declared.kind.Kind.{Kind}
use Rattle.wc_config.specs.declared.kind.Kind.TheVariants as kind
use Rattle.script_steps.specs.Members.{and_then, object_if_there, text_of, u32_of, required, defaulted, optional, hex_if_there}

-- the members that audio configs share
abbrev pub codec_in : Data → Result (Option (List ℕ)) (Stop Wrong)
codec_in d = required text_of (get (codes "codec") d)

abbrev pub rate_in : Data → Result (Option ℕ) (Stop Wrong)
rate_in d = required u32_of (get (codes "sampleRate") d)

abbrev pub channels_in : Data → Result (Option ℕ) (Stop Wrong)
channels_in d = required u32_of (get (codes "numberOfChannels") d)

-- a config where each member has a value
abbrev pub audio_decoder_with : Option (List ℕ) → Option ℕ → Option ℕ → Option (List ℕ) → Config
audio_decoder_with (Some codec) (Some rate) (Some channels) description =
    config.AudioDecoder (record { codec = codec; rate = rate; channels = channels; description = description })
audio_decoder_with _ _ _ _ = config.Bad

abbrev pub audio_decoder_of : Data → Result Config (Stop Wrong)
audio_decoder_of d =
    and_then (codec_in d) (λ codec. and_then (rate_in d) (λ rate. and_then (channels_in d) (λ channels.
    and_then (hex_if_there (get (codes "description") d)) (λ description. Ok (audio_decoder_with codec rate channels description)))))

-- the object `flac`, which may be absent
abbrev pub flac_in : Data → Result (Option Data) (Stop Wrong)
flac_in d = object_if_there (get (codes "flac") d)

-- one of its numbers
abbrev pub flac_number : List ℕ → ℕ → Option Data → Result (Option ℕ) (Stop Wrong)
flac_number key default flac = defaulted default u32_of (option_and_then (get key) flac)

abbrev pub audio_encoder_with : Option (List ℕ) → Option ℕ → Option ℕ → Option ℕ → Option ℕ → Option ℕ → Config
audio_encoder_with (Some codec) (Some rate) (Some channels) (Some block_size) (Some level) (Some depth) =
    config.AudioEncoder (record {
      codec = codec;
      rate = rate;
      channels = channels;
      block_size = block_size;
      level = level;
      depth = depth;
    })
audio_encoder_with _ _ _ _ _ _ = config.Bad

abbrev pub audio_encoder_of : Data → Result Config (Stop Wrong)
audio_encoder_of d =
    and_then (codec_in d) (λ codec. and_then (rate_in d) (λ rate. and_then (channels_in d) (λ channels.
    and_then (flac_in d) (λ flac.
    and_then (flac_number (codes "blockSize") 0 flac) (λ block_size.
    and_then (flac_number (codes "compressLevel") 5 flac) (λ level.
    and_then (flac_number (codes "bitsPerSample") 16 flac) (λ depth.
    Ok (audio_encoder_with codec rate channels block_size level depth))))))))

-- a size in pixels, which may be absent
abbrev pub pixels_in : List ℕ → Data → Result (Option (Option ℕ)) (Stop Wrong)
pixels_in key d = optional u32_of (get key d)

abbrev pub video_decoder_with : Option (List ℕ) → Option (Option ℕ) → Option (Option ℕ) → Option (Option ℕ) → Option (Option ℕ) → Config
video_decoder_with (Some codec) (Some width) (Some height) (Some aspect_width) (Some aspect_height) =
    config.VideoDecoder (record {
      codec = codec;
      width = width;
      height = height;
      aspect_width = aspect_width;
      aspect_height = aspect_height;
    })
video_decoder_with _ _ _ _ _ = config.Bad

abbrev pub video_decoder_of : Data → Result Config (Stop Wrong)
video_decoder_of d =
    and_then (codec_in d) (λ codec.
    and_then (pixels_in (codes "codedWidth") d) (λ width.
    and_then (pixels_in (codes "codedHeight") d) (λ height.
    and_then (pixels_in (codes "displayAspectWidth") d) (λ aspect_width.
    and_then (pixels_in (codes "displayAspectHeight") d) (λ aspect_height.
    Ok (video_decoder_with codec width height aspect_width aspect_height))))))

abbrev pub video_encoder_with : Option (List ℕ) → Option ℕ → Option ℕ → Option ℕ → Config
video_encoder_with (Some codec) (Some width) (Some height) (Some key_interval) =
    config.VideoEncoder (record { codec = codec; width = width; height = height; key_interval = key_interval })
video_encoder_with _ _ _ _ = config.Bad

-- a size in pixels, and the key interval, which may be absent
abbrev pub size_in : List ℕ → Data → Result (Option ℕ) (Stop Wrong)
size_in key d = required u32_of (get key d)

abbrev pub key_interval_in : Data → Result (Option ℕ) (Stop Wrong)
key_interval_in d = defaulted 0 u32_of (get (codes "keyInterval") d)

abbrev pub video_encoder_of : Data → Result Config (Stop Wrong)
video_encoder_of d =
    and_then (codec_in d) (λ codec. and_then (size_in (codes "width") d) (λ width. and_then (size_in (codes "height") d) (λ height.
    and_then (key_interval_in d) (λ key_interval. Ok (video_encoder_with codec width height key_interval)))))

abbrev pub config_of : Kind → Data → Result Config (Stop Wrong)
config_of kind.AudioDecoder d = audio_decoder_of d
config_of kind.AudioEncoder d = audio_encoder_of d
config_of kind.VideoDecoder d = video_decoder_of d
config_of kind.VideoEncoder d = video_encoder_of d
