-- Samples of data, copied in another size and layout.
use Rattle.std.specs.Prelude.{ℕ, ◌+◌, ◌*◌, ◌==◌, ◌||◌, Bool, List, if◌then◌else◌}
use Rattle.std.specs.List.{flat_map, range_with_len}
use Rattle.wc_base.specs.declared.media.SoundShape.{SoundShape}
use Rattle.codec_definitions.specs.Pcm.{format_size, is_planar, place_of, frame_of, resized_at, sample_of, spelled, converted}
use Rattle.sample_conversion.specs.declared.size.SampleSize.TheVariants as size
use Rattle.sample_conversion.specs.Sizes.{is_format_size, cut_of}

-- one channel's samples of `count` frames from `first` on, `size` bytes each
abbrev pub channel_of : ℕ → SoundShape → List ℕ → ℕ → ℕ → ℕ → List ℕ
channel_of size shape bytes channel first count =
    flat_map (λ frame. resized_at (format_size shape.format) size bytes (place_of shape frame channel)) (range_with_len first count)

-- all channels' samples of `count` frames from `first` on, frame by frame, `size` bytes each
abbrev pub frames_of : ℕ → SoundShape → List ℕ → ℕ → ℕ → List ℕ
frames_of size shape bytes first count = flat_map (frame_of size shape bytes) (range_with_len first count)

-- a sample of 1 to 4 bytes
abbrev pub is_sample_size : ℕ → Bool
is_sample_size n = is_format_size n || (n == 3)

-- the last of four bytes, as many as a sample has; a single one with its middle at 128
abbrev pub last_bytes : ℕ → List ℕ → List ℕ
last_bytes n wide =
    if n == 1 then cut_of size.One wide
    else if n == 2 then cut_of size.Two wide
    else if n == 3 then cut_of size.Three wide
    else wide

-- a sample in another size
abbrev pub resized_sample : ℕ → ℕ → List ℕ → List ℕ
resized_sample size other sample = spelled other (converted (8 * size) (8 * other) (sample_of size sample))

-- samples in another size, the first at a place and each so many places after the one before
abbrev pub strided_samples : ℕ → ℕ → List ℕ → ℕ → ℕ → ℕ → List ℕ
strided_samples size other bytes first step count = flat_map (λ i. resized_at size other bytes (first + i * step)) (range_with_len 0 count)

-- channels' samples of frames that stand one after another, the channels so many places apart, frame by frame
abbrev pub plane_frames : ℕ → ℕ → List ℕ → ℕ → ℕ → ℕ → ℕ → List ℕ
plane_frames size other bytes first step frames channels =
    flat_map (λ k. strided_samples size other bytes (first + k) step channels) (range_with_len 0 frames)

-- how far apart the samples of two frames stand
abbrev pub frame_step_of : SoundShape → ℕ
frame_step_of shape = if is_planar shape.format then 1 else shape.channels
