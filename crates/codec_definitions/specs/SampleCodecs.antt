-- Codecs that code each sample by itself: linear PCM, A-law and mu-law (W3C WebCodecs, their registrations). What data is
-- refused is our choice.
use Rattle.std.specs.Prelude.{ℕ, ℤ, ◌*◌, ◌/◌, ◌%◌, ◌^◌, ◌==◌, ◌&&◌, nat_lt, true, List, [], ◌∷◌, length, take, drop, slice_index, Option, Some, None, if◌then◌else◌}
use Rattle.std.specs.List.{flat_map, range_with_len}
use Rattle.wc_base.specs.declared.media.SampleFormat.{SampleFormat}
use Rattle.wc_base.specs.declared.media.SampleFormat.TheVariants as format
use Rattle.wc_base.specs.declared.media.Samples.{Samples}
use Rattle.wc_base.specs.declared.media.SoundShape.{SoundShape}
use Rattle.wc_config.specs.declared.codec.CodecId.{CodecId}
use Rattle.wc_config.specs.declared.codec.CodecId.TheVariants as codec
use Rattle.wc_config.specs.declared.config.AudioDecoderConfig.{AudioDecoderConfig}
use Rattle.wc_config.specs.declared.config.AudioEncoderConfig.{AudioEncoderConfig}
use Rattle.wc_chunk.specs.declared.chunk.Chunk.{Chunk}
use Rattle.codec_definitions.specs.declared.unit.Unit as unit
use Rattle.codec_definitions.specs.declared.unit.Unit.TheVariants as unit_of
use Rattle.codec_definitions.specs.declared.command.Command.{Command}
use Rattle.codec_definitions.specs.declared.command.Command.TheVariants as command
use Rattle.codec_definitions.specs.Pcm.{sample_of, spelled, converted, sample_at, format_size, place_of, is_whole}
use Rattle.codec_definitions.specs.G711.{alaw_value, alaw_code, ulaw_value, ulaw_code}

-- a codec that codes each sample by itself
pub record SampleCodec : Type 0 where
  -- the bytes of a coded sample
  pub size : ℕ
  -- the bits of the values that it codes
  pub bits : ℕ
  -- the format in which samples are decoded
  pub format : SampleFormat
  -- the value that the bytes of a coded sample stand for
  pub value : List ℕ → ℤ
  -- the bytes that stand for a value
  pub code : ℤ → List ℕ

-- linear PCM of so many bytes a sample
abbrev pub pcm : ℕ → SampleFormat → SampleCodec
pcm size out = record { size = size; bits = 8 * size; format = out; value = sample_of size; code = spelled size }

-- a law of G.711: a code is a byte, and stands for a value of 16 bits
abbrev pub law : (ℕ → ℤ) → (ℤ → ℕ) → SampleCodec
law value_of code_of = record { size = 1; bits = 16; format = format.S16; value = λ bytes. value_of (slice_index bytes 0); code = λ v. code_of v ∷ [] }

-- the codecs of which each sample is coded by itself
abbrev pub sample_codec : CodecId → Option SampleCodec
sample_codec codec.PcmU8 = Some (pcm 1 format.U8)
sample_codec codec.PcmS16 = Some (pcm 2 format.S16)
sample_codec codec.PcmS24 = Some (pcm 3 format.S32)
sample_codec codec.PcmS32 = Some (pcm 4 format.S32)
sample_codec codec.Alaw = Some (law alaw_value alaw_code)
sample_codec codec.Ulaw = Some (law ulaw_value ulaw_code)
sample_codec codec.Flac = None
sample_codec codec.RawI420 = None
sample_codec codec.RawI422 = None
sample_codec codec.RawI444 = None
sample_codec codec.RawNv12 = None

-- coded sample `i` of coded samples that stand one after another, in the format in which samples are decoded
abbrev pub decoded_at : SampleCodec → List ℕ → ℕ → List ℕ
decoded_at s bytes i =
    let size = format_size s.format in
    spelled size (converted s.bits (8 * size) (s.value (take s.size (drop (s.size * i) bytes))))

-- all of them
abbrev pub decoded : SampleCodec → List ℕ → List ℕ
decoded s bytes = flat_map (decoded_at s bytes) (range_with_len 0 (length bytes / s.size))

-- a channel's sample of a frame, of data that has a shape, coded
abbrev pub coded_at : SampleCodec → SoundShape → List ℕ → ℕ → ℕ → List ℕ
coded_at s shape bytes frame channel =
    let size = format_size shape.format in
    s.code (converted (8 * size) s.bits (sample_at size bytes (place_of shape frame channel)))

-- the samples of a frame, channel by channel
abbrev pub coded_frame : SampleCodec → SoundShape → List ℕ → ℕ → List ℕ
coded_frame s shape bytes frame = flat_map (coded_at s shape bytes frame) (range_with_len 0 shape.channels)

-- all samples, frame by frame
abbrev pub coded : SampleCodec → SoundShape → List ℕ → List ℕ
coded s shape bytes = flat_map (coded_frame s shape bytes) (range_with_len 0 shape.frames)

-- the samples of a chunk, if it has any; none where it is refused: it is not a whole number of frames, or has more than a
-- u32 counts
abbrev pub sample_units : SampleCodec → AudioDecoderConfig → Chunk → Option (List unit.Unit)
sample_units s c chunk =
    let frame = s.size * c.channels in
    if length chunk.bytes == 0 then Some []
    else if (length chunk.bytes % frame == 0) && nat_lt (length chunk.bytes / frame) (2 ^ 32)
    then Some (unit_of.Sound (record { shape = record { format = s.format; rate = c.rate; channels = c.channels; frames = length chunk.bytes / frame; timestamp = chunk.timestamp }; bytes = decoded s chunk.bytes }) ∷ [])
    else None

abbrev pub sample_decoder : SampleCodec → AudioDecoderConfig → Command → Option (List unit.Unit)
sample_decoder s c (command.Chunk chunk) = sample_units s c chunk
sample_decoder s c command.Drain = Some []
sample_decoder s c x = None

-- the key chunk of some samples; none where they are refused: their rate or channel count is not the config's, or their
-- bytes are not as many as their shape needs
abbrev pub sample_chunk : SampleCodec → AudioEncoderConfig → Samples → Option (List unit.Unit)
sample_chunk s c samples =
    if (samples.shape.rate == c.rate) && (samples.shape.channels == c.channels) && is_whole samples.shape samples.bytes
    then Some (unit_of.Coded (record { key = true; timestamp = samples.shape.timestamp; duration = Some (samples.shape.frames * 1000000 / samples.shape.rate); bytes = coded s samples.shape samples.bytes }) None ∷ [])
    else None

abbrev pub sample_encoder : SampleCodec → AudioEncoderConfig → Command → Option (List unit.Unit)
sample_encoder s c (command.Sound samples) = sample_chunk s c samples
sample_encoder s c command.Drain = Some []
sample_encoder s c x = None
