-- Data in chunks of so many frames.
use Rattle.std.proofs.Common.{◌≡◌, ℕ, zero, suc, ◌+◌, ◌*◌, ◌/◌, ◌%◌, ◌<◌, ◌≤◌, min, List, [], ◌∷◌, ◌++◌, take, drop, map, length, sym, ap, ◌∙◌, arith}
use Rattle.std.specs.List.{range_with_len}
use Rattle.std.specs.Int.{div_ceil}
use Rattle.std.proofs.Math.Nat.{add-mul, mul-le-mul_right, mul_assoc}
use Rattle.std.proofs.Math.Seq.{take-add}
use Rattle.std.proofs.lemmas.Grind.{div_ceil_times}
use Rattle.std.proofs.lemmas.List.{append-nil, take_all, take_min, drop_min, drop-drop}
use Rattle.std.proofs.lemmas.List.Concat.{flat_map-append}
use Rattle.std.proofs.lemmas.List.FromFn.{map-range_with_len_more}
use Rattle.wc_chunk.specs.declared.chunk.Chunk.{Chunk}
use Rattle.wc_demux.specs.Wav.{sound_chunk, chunk_at, chunks_of, joined}
use Rattle.wc_demux.specs.declared.format.Format.{Format}

first_joined : (per_chunk : ℕ) (f : Format) (bytes : List ℕ) (n : ℕ) → joined (map (chunk_at per_chunk f bytes) (range_with_len 0 n)) ≡ take (n * (per_chunk * f.frame_size)) bytes
first_joined per_chunk f bytes zero = ap (λ k. take k bytes) (let e : 0 ≡ 0 * (per_chunk * f.frame_size) = omega arith in e)
first_joined per_chunk f bytes (suc n) =
    let size = per_chunk * f.frame_size in
    let one : suc n ≡ n + 1 = omega arith in
    let content : Chunk → List ℕ = λ c. c.bytes in
    let more = map-range_with_len_more (chunk_at per_chunk f bytes) 0 n n (omega arith) in
    ap (λ k. joined (map (chunk_at per_chunk f bytes) (range_with_len 0 k))) one ∙ ap joined more
    ∙ flat_map-append content (map (chunk_at per_chunk f bytes) (range_with_len 0 n)) (chunk_at per_chunk f bytes n ∷ [])
    ∙ ap (λ (xs : List ℕ). xs ++ (take size (drop (n * size) bytes) ++ [])) (first_joined per_chunk f bytes n)
    ∙ ap (λ (xs : List ℕ). take (n * size) bytes ++ xs) (append-nil (take size (drop (n * size) bytes)))
    ∙ sym (take-add (n * size) size bytes) ∙ ap (λ k. take k bytes) (let e : n * size + size ≡ suc n * size = omega (arith, add-mul n 1 size) in e)

-- chunks of whole frames, joined, are all of them
pub all_joined : (per_chunk : ℕ) (f : Format) (bytes : List ℕ) → 1 ≤ per_chunk → length bytes ≡ length bytes / f.frame_size * f.frame_size → joined (chunks_of per_chunk f bytes) ≡ bytes
all_joined per_chunk f bytes some whole =
    let frames = length bytes / f.frame_size in
    let count = div_ceil frames per_chunk in
    let enough : frames ≤ count * per_chunk = (div_ceil_times frames per_chunk some).0 in
    let long : frames * f.frame_size ≤ count * per_chunk * f.frame_size = mul-le-mul_right f.frame_size enough in
    first_joined per_chunk f bytes count ∙ take_all (count * (per_chunk * f.frame_size)) bytes (omega (arith, whole, long, mul_assoc count per_chunk f.frame_size))

-- before each chunk are fewer frames than there are
pub before_less : (frames per_chunk i : ℕ) → 1 ≤ per_chunk → i < frames / per_chunk + min 1 (frames % per_chunk) → i * per_chunk < frames
before_less frames per_chunk i some lt =
    let count = frames / per_chunk + min 1 (frames % per_chunk) in
    let few : count * per_chunk < frames + per_chunk = (div_ceil_times frames per_chunk some).1 in
    let more : (i + 1) * per_chunk ≤ count * per_chunk = mul-le-mul_right per_chunk (omega arith) in
    omega (arith, few, more, add-mul i 1 per_chunk)

-- one chunk more of what is left
pub piece_more : (per_chunk : ℕ) (f : Format) (sound rest content more : List ℕ) (items : List Chunk) (chunk : Chunk) (i n : ℕ)
    → n ≡ min (per_chunk * f.frame_size) (length rest) → content ≡ take n rest → more ≡ drop n rest → rest ≡ drop (i * (per_chunk * f.frame_size)) sound
    → chunk ≡ sound_chunk f (i * per_chunk) content → items ≡ map (chunk_at per_chunk f sound) (range_with_len 0 i)
    → (more ≡ drop ((i + 1) * (per_chunk * f.frame_size)) sound) × (items ++ chunk ∷ [] ≡ map (chunk_at per_chunk f sound) (range_with_len 0 (i + 1)))
piece_more per_chunk f sound rest content more items chunk i n least front back is made so_far =
    let size = per_chunk * f.frame_size in
    let here : content ≡ take size (drop (i * size) sound) = front ∙ ap (λ k. take k rest) least ∙ take_min size rest ∙ ap (take size) is in
    let there : more ≡ drop (i * size + size) sound = back ∙ ap (λ k. drop k rest) least ∙ drop_min size rest ∙ ap (drop size) is ∙ drop-drop size (i * size) sound in
    let chunk_is : chunk ≡ chunk_at per_chunk f sound i = made ∙ ap (λ (xs : List ℕ). sound_chunk f (i * per_chunk) xs) here in (
      there ∙ ap (λ k. drop k sound) (let e : i * size + size ≡ (i + 1) * size = omega (arith, add-mul i 1 size) in e),
      ap (λ (cs : List Chunk). cs ++ chunk ∷ []) so_far
          ∙ ap (λ (x : Chunk). map (chunk_at per_chunk f sound) (range_with_len 0 i) ++ x ∷ []) chunk_is
          ∙ sym (map-range_with_len_more (chunk_at per_chunk f sound) 0 i i (omega arith)),
    )
