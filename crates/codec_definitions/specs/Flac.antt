-- FLAC as a codec (W3C WebCodecs, registration for FLAC): a chunk is one frame (RFC 9639) of the stream that the config's
-- description describes, and its samples are channels interleaved, depths up to 16 bits as 16, and others as 32, with zeros
-- below.
use Rattle.std.specs.Prelude.{ℕ, ℤ, pos, ◌*ℤ◌, ◌+◌, ◌-◌, ◌*◌, ◌^◌, nat_le, List, [], ◌∷◌, Option, Some, None, slice_index_or as get_or, if◌then◌else◌}
use Rattle.std.specs.List.{flat_map, range_with_len}
use Rattle.wc_base.specs.declared.media.SampleFormat.{SampleFormat}
use Rattle.wc_base.specs.declared.media.SampleFormat.TheVariants as format
use Rattle.wc_config.specs.declared.stream_info.StreamInfo.{StreamInfo}
use Rattle.wc_config.specs.Streams.{streaminfo_of}
use Rattle.wc_chunk.specs.declared.chunk.Chunk.{Chunk}
use Rattle.flac_definitions.specs.Frame.{frame_of}
use Rattle.flac_definitions.specs.Header.{channels_of}
use Rattle.flac_definitions.specs.declared.header.FrameHeader.{FrameHeader}
use Rattle.codec_definitions.specs.declared.unit.Unit as unit
use Rattle.codec_definitions.specs.declared.unit.Unit.TheVariants as unit_of
use Rattle.codec_definitions.specs.declared.command.Command.{Command}
use Rattle.codec_definitions.specs.declared.command.Command.TheVariants as command
use Rattle.codec_definitions.specs.Pcm.{spelled}

-- bytes a sample
abbrev pub sample_size : ℕ → ℕ
sample_size depth = if nat_le depth 16 then 2 else 4

-- sample `i` of a channel, as so many bytes, multiplied by a power of two
abbrev pub sample_bytes : ℕ → ℕ → ℕ → List ℤ → ℕ → ℕ → List ℕ
sample_bytes size up block samples i channel =
    spelled size (get_or samples (channel * block + i) (pos 0) *ℤ pos (2 ^ up))

-- sample `i` of all channels
abbrev pub interchannel_bytes : ℕ → ℕ → ℕ → ℕ → List ℤ → ℕ → List ℕ
interchannel_bytes size up channels block samples i =
    flat_map (sample_bytes size up block samples i) (range_with_len 0 channels)

-- all samples of all channels, which stand one channel after another
abbrev pub interleaved_bytes : ℕ → ℕ → ℕ → ℕ → List ℤ → List ℕ
interleaved_bytes size up channels block samples =
    flat_map (interchannel_bytes size up channels block samples) (range_with_len 0 block)

-- the bytes of a frame's samples
unfoldable pub bytes_of_frame : FrameHeader → List ℤ → List ℕ
bytes_of_frame h samples =
    let size = sample_size h.depth in
    interleaved_bytes size (8 * size - h.depth) (channels_of h.assignment) h.block samples

-- the format in which samples of a depth are decoded
abbrev pub flac_format : ℕ → SampleFormat
flac_format depth = if nat_le depth 16 then format.S16 else format.S32

-- what the description of a config says
abbrev pub described : Option (List ℕ) → Option StreamInfo
described None = None
described (Some description) = streaminfo_of description

-- the samples of a frame; its rate, channels and depth are those of the stream
abbrev pub flac_sound : StreamInfo → Chunk → FrameHeader → List ℤ → unit.Unit
flac_sound info chunk h samples =
    unit_of.Sound (record { shape = record { format = flac_format info.depth; rate = info.rate; channels = info.channels; frames = h.block; timestamp = chunk.timestamp }; bytes = bytes_of_frame h samples })

-- the one unit of a chunk that is a frame
abbrev pub unit_of_frame : StreamInfo → Chunk → Option (FrameHeader × List ℤ) → Option (List unit.Unit)
unit_of_frame info chunk None = None
unit_of_frame info chunk (Some f) = Some (flac_sound info chunk f.0 f.1 ∷ [])

-- the units of a chunk, by what the config's description says (that of a supported config says something); none where it
-- is refused: it is no frame of the stream, or has bytes behind it
abbrev pub flac_units : Option StreamInfo → Chunk → Option (List unit.Unit)
flac_units None chunk = None
flac_units (Some info) chunk = unit_of_frame info chunk (frame_of info chunk.bytes)

abbrev pub flac_decoder : Option StreamInfo → Command → Option (List unit.Unit)
flac_decoder info (command.Chunk chunk) = flac_units info chunk
flac_decoder info command.Drain = Some []
flac_decoder info x = None
