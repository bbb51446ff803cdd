-- Samples put into a room, one after another.
use Rattle.std.proofs.Common.{ℕ, ℤ, ◌≡◌, ◌<◌, ◌+◌, ◌/◌, List, length, take, map, slice_set, zero-add, refl}
use Rattle.std.proofs.lemmas.Bool.{lt-leb}
use Rattle.std.proofs.lemmas.List.{take_more_set}
use Rattle.std.proofs.lemmas.List.FromFn.{map-range_with_len_more, length-map-range_with_len}
use Rattle.std.specs.List.{range_with_len}
use Rattle.codec_definitions.specs.Flac.{sample_size}
use Rattle.codec_definitions.specs.Pcm.{sample_at, converted}
use Rattle.c_library.specs.Frames.{sample_in, samples_in}
use Rattle.c_library.specs.Status.{too_small, fill_status, filled}

-- one sample more stands there
pub one_more : (f : ℕ → ℤ) (out : List ℤ) (i : ℕ) (v : ℤ) → i < length out → v ≡ f i → take i out ≡ map f (range_with_len 0 i)
    → take (i + 1) (slice_set out i v) ≡ map f (range_with_len 0 (i + 1))
one_more f out i v l e h = rw (take_more_set out i v l, h, e, map-range_with_len_more f 0 i i (zero-add i)) refl

-- more than there is room for
pub too_many : (depth : ℕ) (bytes : List ℕ) (room : List ℤ) → length room < length bytes / sample_size depth
    → (too_small ≡ fill_status (samples_in depth bytes) room) × (room ≡ filled (samples_in depth bytes) room)
too_many depth bytes room l =
    let more : length room < length (samples_in depth bytes) = rw (length-map-range_with_len (sample_in depth bytes) 0 (length bytes / sample_size depth)) l in
    rw (lt-leb (length (samples_in depth bytes)) (length room) more) (refl, refl)

-- a sample of four bytes
pub in_four : (depth : ℕ) (bytes : List ℕ) (i : ℕ) → 16 < depth → converted 32 depth (sample_at 4 bytes i) ≡ sample_in depth bytes i
in_four depth bytes i h = rw (lt-leb depth 16 h) refl
