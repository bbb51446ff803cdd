-- Bytes a sample, and how a sample is brought to another size.
use Rattle.std.specs.Prelude.{ℕ, ℤ, ◌≡◌, ◌≤◌, ◌<◌, ◌+◌, ◌*◌, ◌%◌, ◌==◌, ◌||◌, ◌&&◌, not, Bool, List, [], ◌∷◌, length, drop, slice_index, if◌then◌else◌}
use Rattle.wc_base.specs.declared.media.SampleFormat.{SampleFormat}
use Rattle.std.specs.List.{All}
use Rattle.codec_definitions.specs.Pcm.{format_size, is_planar, sample_of, spelled, converted}
use Rattle.sample_conversion.specs.declared.size.SampleSize.{SampleSize}
use Rattle.sample_conversion.specs.declared.size.SampleSize.TheVariants as size

abbrev pub size_of : SampleSize → ℕ
size_of size.One = 1
size_of size.Two = 2
size_of size.Three = 3
size_of size.Four = 4

-- a sample of 1, 2 or 4 bytes
abbrev pub is_format_size : ℕ → Bool
is_format_size n = (n == 1) || (n == 2) || (n == 4)

-- whether data of a format is interleaved in a size by its own bytes
abbrev pub is_same : SampleSize → SampleFormat → Bool
is_same s format = not (is_planar format) && (format_size format == size_of s)

-- a sample's bytes at the end of four, in two's complement
abbrev pub padded_of : List ℕ → List ℕ
padded_of s =
    if length s == 1 then 0 ∷ 0 ∷ 0 ∷ (slice_index s 0 + 128) % 256 ∷ []
    else if length s == 2 then 0 ∷ 0 ∷ slice_index s 0 ∷ slice_index s 1 ∷ []
    else slice_index s 0 ∷ slice_index s 1 ∷ slice_index s 2 ∷ slice_index s 3 ∷ []

-- the last of four bytes, as many as a sample of this size has
abbrev pub cut_of : SampleSize → List ℕ → List ℕ
cut_of size.One wide = (slice_index wide 3 + 128) % 256 ∷ []
cut_of size.Two wide = drop 2 wide
cut_of size.Three wide = drop 1 wide
cut_of size.Four wide = wide

abbrev pub AreBytes : List ℕ → Type 0
AreBytes bytes = All (λ b. b < 256) bytes

-- a sample of a format, given 16 bits
abbrev pub in_sixteen : SampleFormat → List ℕ → ℤ
in_sixteen format s = let size = format_size format in converted (8 * size) 16 (sample_of size s)

-- a sample that was given 16 bits is what its two bytes spell
abbrev pub SixteenBitsComeBack : Type 0
SixteenBitsComeBack = (format : SampleFormat) (s : List ℕ) → AreBytes s → length s ≤ format_size format → sample_of 2 (spelled 2 (in_sixteen format s)) ≡ in_sixteen format s
