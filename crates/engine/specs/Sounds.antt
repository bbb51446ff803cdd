-- The samples that an encode is given.
use Rattle.std.specs.Prelude.{ℕ, ◌==◌, List, length, take, Option, Some, None}
use Rattle.std.specs.Prelude.{option_map, option_and_then, if◌then◌else◌}
use Rattle.wc_base.specs.declared.media.SampleFormat.{SampleFormat}
use Rattle.wc_base.specs.declared.media.SampleFormat.TheVariants as format
use Rattle.wc_base.specs.declared.media.SoundShape.{SoundShape}
use Rattle.wc_base.specs.declared.media.Samples.{Samples}
use Rattle.wc_audio.specs.Sound.{needed, is_invalid}
use Rattle.engine.specs.declared.answers.SamplesHead.{SamplesHead}

-- the format with this code, as `format_code` gives it
abbrev pub format_with : ℕ → Option SampleFormat
format_with n =
    if n == 0 then Some format.U8
    else if n == 1 then Some format.S16
    else if n == 2 then Some format.S32
    else if n == 3 then Some format.U8Planar
    else if n == 4 then Some format.S16Planar
    else if n == 5 then Some format.S32Planar
    else None

abbrev pub shape_with : SamplesHead → SampleFormat → SoundShape
shape_with h f = record {
  format = f;
  rate = h.rate;
  channels = h.channels;
  frames = h.frames;
  timestamp = h.timestamp;
}

-- the samples of this shape, in the bytes at the front; none where the constructor of AudioData
-- refuses them (W3C WebCodecs, valid AudioDataInit)
abbrev pub samples_in : List ℕ → SoundShape → Option Samples
samples_in bytes shape =
    if is_invalid shape (length bytes) then None
    else Some (record { shape = shape; bytes = take (needed shape) bytes })

-- the samples of these parts; none where no format has this code
abbrev pub samples_of : SamplesHead → List ℕ → Option Samples
samples_of h bytes =
    option_and_then (samples_in bytes) (option_map (shape_with h) (format_with h.format))
