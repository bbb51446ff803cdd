-- Samples that are spelled by the bytes that spelled them.
use Rattle.std.proofs.Common.{ℕ, zero, suc, ◌≡◌, ◌≤◌, ◌<◌, ◌^◌, ◌*◌, ◌+◌, ◌/◌, ◌%◌, List, [], ◌∷◌, ◌++◌, length, take, drop, ap, ◌∙◌, refl, lit<, arith, zero-add, add-zero, append-nil, append_assoc}
use Rattle.std.proofs.Math.Nat.{pow-suc, pow-le-pow_right, mul-zero, zero-mul, mul-one, le_refl}
use Rattle.std.proofs.Math.Seq.{take-add}
use Rattle.std.proofs.lemmas.List.{drop-drop, length-drop, length-take-le, take_all}
use Rattle.std.proofs.lemmas.List.Elements.{All-take, All-drop, All-head, All-tail}
use Rattle.std.specs.List.{flat_map, range_with_len}
use Rattle.sample_conversion.specs.Sizes.{AreBytes}
use Rattle.codec_definitions.specs.Pcm.{little_endian, bytes_of, sample_of, spelled, converted, resized_at}

pub bytes_of_little : (xs : List ℕ) → AreBytes xs → bytes_of (length xs) (little_endian xs) ≡ xs
bytes_of_little [] a = refl
bytes_of_little (b ∷ bs) a =
    let small : b < 256 = All-head (λ (x : ℕ). x < 256) b bs a in
    let low : (b + 256 * little_endian bs) % 256 ≡ b = omega (arith, small) in
    let high : (b + 256 * little_endian bs) / 256 ≡ little_endian bs = omega (arith, small) in
    rw (low, high) (ap (λ (l : List ℕ). b ∷ l) (bytes_of_little bs (All-tail (λ (x : ℕ). x < 256) b bs a)))

pub little_bound : (xs : List ℕ) → AreBytes xs → little_endian xs < 256 ^ length xs
little_bound [] a = lit< tt
little_bound (b ∷ bs) a =
    let small : b < 256 = All-head (λ (x : ℕ). x < 256) b bs a in
    let rest : little_endian bs < 256 ^ length bs = little_bound bs (All-tail (λ (x : ℕ). x < 256) b bs a) in
    rw (pow-suc 256 (length bs)) (omega (arith, small, rest))

abbrev pub IsSame : ℕ → Type 0
IsSame size = (xs : List ℕ) → length xs ≡ size → AreBytes xs → spelled size (converted (8 * size) (8 * size) (sample_of size xs)) ≡ xs

pub same_front : (size : ℕ) (bytes : List ℕ) → IsSame size → AreBytes bytes → (a n : ℕ) → size * (a + n) ≤ length bytes → flat_map (resized_at size size bytes) (range_with_len a n) ≡ take (size * n) (drop (size * a) bytes)
same_front size bytes same small a zero room = rw (mul-zero size) refl
same_front size bytes same small a (suc n) room =
    let front = drop (size * a) bytes in
    let next : size * suc n ≡ size + size * n = omega arith in
    let after : size * (a + 1) ≡ size * a + size = omega arith in
    let here : resized_at size size bytes a ≡ take size front = same (take size front) (length-take-le size front (omega (arith, length-drop (size * a) bytes))) (All-take (λ (x : ℕ). x < 256) size front (All-drop (λ (x : ℕ). x < 256) (size * a) bytes small)) in
    rw (here, same_front size bytes same small (a + 1) n (omega arith), after, next, take-add size (size * n) front, drop-drop size (size * a) bytes) refl

-- what is spelled as it was is the same bytes
pub same_whole : (size : ℕ) (bytes : List ℕ) → IsSame size → AreBytes bytes → (n : ℕ) → size * n ≡ length bytes → flat_map (resized_at size size bytes) (range_with_len 0 n) ≡ bytes
same_whole size bytes same small n count = same_front size bytes same small 0 n (omega arith) ∙ rw (count, mul-zero size) (take_all (length bytes) bytes (le_refl (length bytes)))

pub joined : (f : ℕ → List ℕ) (a m n : ℕ) → flat_map f (range_with_len a (m + n)) ≡ flat_map f (range_with_len a m) ++ flat_map f (range_with_len (a + m) n)
joined f a zero n = rw (zero-add n, add-zero a) refl
joined f a (suc m) n =
    let count : suc m + n ≡ suc (m + n) = omega arith in
    let place : a + suc m ≡ a + 1 + m = omega arith in
    rw (count, place, joined f (a + 1) m n, append_assoc) refl

-- one more of what stands one after another
pub one_more : (f : ℕ → List ℕ) (n : ℕ) → flat_map f (range_with_len 0 (n + 1)) ≡ flat_map f (range_with_len 0 n) ++ f n
one_more f n = rw (joined f 0 n 1, zero-add n, append-nil) refl

-- counted from a place on
shifted : (f : ℕ → List ℕ) (b a n : ℕ) → flat_map (λ i. f (b + i)) (range_with_len a n) ≡ flat_map f (range_with_len (b + a) n)
shifted f b a zero = refl
shifted f b a (suc n) = let next : b + (a + 1) ≡ b + a + 1 = omega arith in rw (shifted f b (a + 1) n, next) refl

pub from_place : (f : ℕ → List ℕ) (first n : ℕ) → flat_map (λ i. f (first + i)) (range_with_len 0 n) ≡ flat_map f (range_with_len first n)
from_place f first n = rw (shifted f first 0 n, add-zero) refl

pub one_by_one : (f : ℕ → List ℕ) (first n : ℕ) → flat_map (λ i. f (first + i * 1)) (range_with_len 0 n) ≡ flat_map f (range_with_len first n)
one_by_one f first n = simp mul-one (from_place f first n)

-- frames of `c` samples are all samples in order
pub framed : (f : ℕ → List ℕ) (c a n : ℕ) → flat_map (λ frame. flat_map (λ channel. f (frame * c + channel)) (range_with_len 0 c)) (range_with_len a n) ≡ flat_map f (range_with_len (a * c) (n * c))
framed f c a zero = rw (zero-mul c) refl
framed f c a (suc n) =
    let next : (a + 1) * c ≡ a * c + c = omega arith in
    let count : suc n * c ≡ c + n * c = omega arith in
    rw (from_place f (a * c) c, framed f c (a + 1) n, next, count, joined f (a * c) c (n * c)) refl

pub bound_of : (s : List ℕ) (k : ℕ) → AreBytes s → length s ≤ k → little_endian s < 256 ^ k
bound_of s k a short =
    let p : 256 ^ length s ≤ 256 ^ k = pow-le-pow_right (lit< tt) short in
    omega (arith, little_bound s a, p)
