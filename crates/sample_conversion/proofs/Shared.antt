-- Samples that keep their bytes.
use Rattle.std.proofs.Common.{ℕ, ◌≡◌, refl, ◌<◌, ◌%◌, List, length, get_or, Fits, w8, append_assoc, sym, arith, ◌+◌, ◌*◌, ◌-◌, ◌/◌, [], ◌∷◌, ◌++◌, take, drop}
use Rattle.std.proofs.Math.Facts.{Fits-lt-pow}
use Rattle.std.proofs.lemmas.List.Elements.{All-from_get_or, All-take, All-drop}
use Rattle.std.proofs.lemmas.List.{length-drop, length-take-le}
use Rattle.std.specs.List.{flat_map, range_with_len}
use Rattle.sample_conversion.specs.{declared.size.SampleSize.SampleSize, Sizes.AreBytes, Sizes.size_of}
use Rattle.codec_definitions.specs.Pcm.{resized, resized_at}
use Rattle.sample_conversion.proofs.{Samples.one_more, Samples.same_whole, Sizes.same, Sizes.widened_sample}

pub are_bytes : (xs : List ℕ) → ((i : ℕ) → Fits w8 (get_or xs i 0)) → AreBytes xs
are_bytes xs fit = All-from_get_or (λ (b : ℕ). b < 256) xs 0 (λ i short. Fits-lt-pow (fit i))

pub shared : (s : SampleSize) (bytes : List ℕ) → AreBytes bytes → length bytes % size_of s ≡ 0 → bytes ≡ resized (size_of s) (size_of s) bytes
shared SampleSize.One bytes a whole = sym (same_whole 1 bytes (same SampleSize.One) a (length bytes / 1) (omega arith))
shared s bytes a whole = sym (same_whole (size_of s) bytes (same s) a (length bytes / size_of s) (omega arith))

-- one sample of 24 bits more
pub widened_push : (bytes wide middle new : List ℕ) (i : ℕ) → AreBytes bytes → i < length bytes / 3 → wide ≡ flat_map (resized_at 3 4 bytes) (range_with_len 0 i) → middle ≡ wide ++ 0 ∷ [] → new ≡ middle ++ take (3 * i + 3 - 3 * i) (drop (3 * i) bytes) → new ≡ flat_map (resized_at 3 4 bytes) (range_with_len 0 (i + 1))
widened_push bytes wide middle new i a short so_far zero sample =
    let three : 3 * i + 3 - 3 * i ≡ 3 = omega arith in
    let long : length (take 3 (drop (3 * i) bytes)) ≡ 3 = length-take-le 3 (drop (3 * i) bytes) (omega (arith, length-drop (3 * i) bytes)) in
    let here : resized_at 3 4 bytes i ≡ 0 ∷ take 3 (drop (3 * i) bytes) = widened_sample (take 3 (drop (3 * i) bytes)) long (All-take (λ (x : ℕ). x < 256) 3 (drop (3 * i) bytes) (All-drop (λ (x : ℕ). x < 256) (3 * i) bytes a)) in
    rw (sample, zero, so_far, three, one_more (resized_at 3 4 bytes) i, here, append_assoc) refl
