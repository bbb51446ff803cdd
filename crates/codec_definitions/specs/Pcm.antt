-- Linear PCM (W3C WebCodecs, registration for linear PCM): a sample is little-endian, of one to four bytes, in two's
-- complement, or of one byte with its middle at 128. Conversion between depths, and which data is refused, is our choice.
use Rattle.std.specs.Prelude.{ℕ, zero, suc, ℤ, pos, negsuc, ◌+◌, ◌-◌, ◌*◌, ◌/◌, ◌%◌, ◌^◌, ◌==◌, nat_lt, nat_le, Bool, true, false, ◌+ℤ◌, ◌-ℤ◌, ◌*ℤ◌, List, [], ◌∷◌, length, take, drop, if◌then◌else◌}
use Rattle.std.specs.List.{flat_map, range_with_len}
use Rattle.std.specs.Int.{int_div_euclid}
use Rattle.wc_base.specs.declared.media.SampleFormat.{SampleFormat}
use Rattle.wc_base.specs.declared.media.SampleFormat.TheVariants as format
use Rattle.wc_base.specs.declared.media.SoundShape.{SoundShape}

-- the number that bytes spell, the least significant first
abbrev pub little_endian : List ℕ → ℕ
little_endian [] = 0
little_endian (b ∷ bs) = b + 256 * little_endian bs

-- as many bytes of a number, the least significant first
abbrev pub bytes_of : ℕ → ℕ → List ℕ
bytes_of zero n = []
bytes_of (suc size) n = n % 256 ∷ bytes_of size (n / 256)

-- the number that stands for `n` in two's complement of so many bits
abbrev pub signed : ℕ → ℕ → ℤ
signed bits n = if nat_lt n (2 ^ (bits - 1)) then pos n else negsuc (2 ^ bits - 1 - n)

-- what stands for a number in two's complement of so many bits
abbrev pub unsigned : ℕ → ℤ → ℕ
unsigned bits (pos n) = n % 2 ^ bits
unsigned bits (negsuc n) = 2 ^ bits - 1 - n % 2 ^ bits

-- the sample that `size` bytes spell
abbrev pub sample_of : ℕ → List ℕ → ℤ
sample_of size bytes = if size == 1 then pos (little_endian bytes) -ℤ pos 128 else signed (8 * size) (little_endian bytes)

-- the `size` bytes that spell a sample
abbrev pub spelled : ℕ → ℤ → List ℕ
spelled size v = bytes_of size (unsigned (8 * size) (if size == 1 then v +ℤ pos 128 else v))

-- a sample of so many bits, given so many others: multiplied by a power of two, or divided by one and rounded down
abbrev pub converted : ℕ → ℕ → ℤ → ℤ
converted from to v = if nat_le from to then v *ℤ pos (2 ^ (to - from)) else int_div_euclid v (pos (2 ^ (from - to)))

-- sample `i` of samples that stand one after another, `size` bytes each
abbrev pub sample_at : ℕ → List ℕ → ℕ → ℤ
sample_at size bytes i = sample_of size (take size (drop (size * i) bytes))

-- the same sample in another size
abbrev pub resized_at : ℕ → ℕ → List ℕ → ℕ → List ℕ
resized_at size other bytes i = spelled other (converted (8 * size) (8 * other) (sample_at size bytes i))

-- all samples in another size
abbrev pub resized : ℕ → ℕ → List ℕ → List ℕ
resized size other bytes = flat_map (resized_at size other bytes) (range_with_len 0 (length bytes / size))

-- bytes a sample
abbrev pub format_size : SampleFormat → ℕ
format_size format.U8 = 1
format_size format.S16 = 2
format_size format.S32 = 4
format_size format.U8Planar = 1
format_size format.S16Planar = 2
format_size format.S32Planar = 4

-- where a channel's sample of a frame stands among all: frame by frame, or channel by channel
abbrev pub is_planar : SampleFormat → Bool
is_planar format.U8Planar = true
is_planar format.S16Planar = true
is_planar format.S32Planar = true
is_planar _ = false

abbrev pub place_of : SoundShape → ℕ → ℕ → ℕ
place_of shape frame channel =
    if is_planar shape.format then channel * shape.frames + frame else frame * shape.channels + channel

-- the bytes of a frame, `size` bytes a sample, of data that has a shape
abbrev pub frame_of : ℕ → SoundShape → List ℕ → ℕ → List ℕ
frame_of size shape bytes frame =
    flat_map (λ channel. resized_at (format_size shape.format) size bytes (place_of shape frame channel)) (range_with_len 0 shape.channels)

-- all samples, frame by frame, `size` bytes each
abbrev pub interleaved : ℕ → SoundShape → List ℕ → List ℕ
interleaved size shape bytes = flat_map (frame_of size shape bytes) (range_with_len 0 shape.frames)

-- the data holds as many bytes as its shape needs
abbrev pub is_whole : SoundShape → List ℕ → Bool
is_whole shape bytes = length bytes == shape.frames * shape.channels * format_size shape.format
