-- The bytes of a FLAC block, and of the description of a stream of blocks (W3C WebCodecs, registration for FLAC).
use Rattle.std.specs.Prelude.{ℕ, ℤ, pos, ◌+◌, ◌*◌, ◌/◌, ◌==◌, Bool, true, List, length, take, drop, map, get_or, replicate, if◌then◌else◌}
use Rattle.std.specs.List.{flat_map, range_with_len}
use Rattle.wc_config.specs.declared.config.AudioEncoderConfig.{AudioEncoderConfig}
use Rattle.wc_config.specs.declared.stream_info.StreamInfo.{StreamInfo}
use Rattle.flac_definitions.specs.Bits.{number_of}
use Rattle.flac_definitions.specs.Descriptions.{description_bits}
use Rattle.flac_definitions.specs.FrameWriting.{frame_bits}
use Rattle.flac_definitions.specs.declared.mode.BlockFormat.{BlockFormat}

abbrev pub format_of : AudioEncoderConfig → BlockFormat
format_of c = record { rate = c.rate; channels = c.channels; depth = c.depth; level = c.level }

-- the samples of a channel, of samples that stand frame by frame
abbrev pub channel_apart : ℕ → List ℤ → ℕ → List ℤ
channel_apart channels values c = map (λ i. get_or values (i * channels + c) (pos 0)) (range_with_len 0 (length values / channels))

-- one channel after another
abbrev pub apart : ℕ → List ℤ → List ℤ
apart channels values = flat_map (channel_apart channels values) (range_with_len 0 channels)

-- the bytes of bits that fill whole bytes
abbrev pub bytes_with : List Bool → List ℕ
bytes_with bits = map (λ i. number_of (take 8 (drop (8 * i) bits))) (range_with_len 0 (length bits / 8))

-- the frame of a block of samples that stand frame by frame
unfoldable pub flac_code : AudioEncoderConfig → ℕ → List ℤ → List ℕ
flac_code c number values = bytes_with (frame_bits (format_of c) (length values / c.channels) number (apart c.channels values))

-- frames a block (0 leaves it to the encoder: 4096), and samples a block, over all channels
abbrev pub block_frames : AudioEncoderConfig → ℕ
block_frames c = if c.block_size == 0 then 4096 else c.block_size

abbrev pub block_samples : AudioEncoderConfig → ℕ
block_samples c = block_frames c * c.channels

-- what an encoder says of its stream: the sizes of frames, the total and the sum are unknown
abbrev pub stream_of : AudioEncoderConfig → StreamInfo
stream_of c = record { min_block = block_frames c; max_block = block_frames c; min_frame = 0; max_frame = 0; rate = c.rate; channels = c.channels; depth = c.depth; total = 0; md5 = replicate 16 0 }

unfoldable pub stream_description : AudioEncoderConfig → List ℕ
stream_description c = bytes_with (description_bits true (stream_of c))
