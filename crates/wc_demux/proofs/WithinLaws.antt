-- What the chunks of media files hold is within its types.
use Rattle.std.proofs.Common.{◌≡◌, ◌+◌, ◌*◌, ◌/◌, ◌<◌, ◌≤◌, ◌^◌, ◌-◌, min, ℕ, zero, suc, Bool, true, false, cond, List, [], ◌∷◌, ◌++◌, length, take, drop, map, codes, Option, Some, None, Result, Ok, Err, refl, sym, ap, subst, ◌∙◌, arith, length-take, length-drop}
use Rattle.std.specs.Option.{IfSome}
use Rattle.std.specs.List.{AllByRecursion, range_with_len}
use Rattle.std.specs.Int.{cast_signed, w64, div_ceil}
use Rattle.std.specs.Int.Signed.{mag}
use Rattle.std.proofs.lemmas.Int.{to_z_pos}
use Rattle.std.proofs.Math.Facts.{to_z-neg}
use Rattle.std.proofs.Math.Nat.{div-le_self}
use mathlib.Core.Logic.{dite}
use native.Mathlib.Decide.{dec_lt}
use Rattle.hex.specs.Hex.{IsBytes}
use Rattle.byteorder.specs.Endian.{big_number}
use Rattle.byteorder.specs.Numbers.{big_from-lt}
use Rattle.wc_chunk.specs.declared.chunk.Chunk.{Chunk}
use Rattle.wc_config.specs.declared.stream_info.StreamInfo.{StreamInfo}
use Rattle.chunk_files.specs.declared.fault.DemuxFault.{DemuxFault}
use Rattle.chunk_files.specs.declared.fault.DemuxFault.TheVariants as fault
use Rattle.std.specs.Prelude.{bytes_eq, not}
use Rattle.chunk_files.specs.Layout.{BeginsWith, IsDuration}
use Rattle.chunk_files.specs.Grammar.{BeginsWithAll}
use Rattle.flac_decode.specs.FrameEnd.{FramesAreFound}
use Rattle.wc_demux.specs.Parts.{Part, parts_in}
use Rattle.wc_demux.specs.Wav.{is_cut, has_id, size_of, whole_size, format_of, with_rest, format_in, data_in, whole_frames, with_format, data_behind, parts_from, sound_in, chunk_at, chunks_of, wav_with, wav_by, wav_of}
use Rattle.wc_demux.specs.Flac.{BeginsWithFrames}
use Rattle.wc_demux.specs.Media.{frames_per_chunk}
use Rattle.wc_demux.specs.Within.{IsSmallChunk, MediaAreSmall}
use Rattle.wc_demux.specs.declared.format.Format.{Format}
use Rattle.wc_demux.specs.declared.media.MediaFile.{MediaFile}
use Rattle.wc_demux.specs.declared.media.MediaFile.TheVariants as media
use Rattle.wc_demux.specs.declared.wav.Wav.{Wav}
use Rattle.wc_demux.proofs.PieceLaws.{before_less}

-- ---- bytes

front_bytes : (a b : List ℕ) → IsBytes (a ++ b) → IsBytes a
front_bytes [] b h i = omega arith
front_bytes (x ∷ a) b h zero = h zero
front_bytes (x ∷ a) b h (suc i) = front_bytes a b (λ j. h (suc j)) i

behind_bytes : (a b : List ℕ) → IsBytes (a ++ b) → IsBytes b
behind_bytes [] b h = h
behind_bytes (x ∷ a) b h = behind_bytes a b (λ j. h (suc j))

drop_bytes : (n : ℕ) (xs : List ℕ) → IsBytes xs → IsBytes (drop n xs)
drop_bytes zero xs h = h
drop_bytes (suc n) [] h = h
drop_bytes (suc n) (x ∷ xs) h = drop_bytes n xs (λ i. h (suc i))

take_bytes : (n : ℕ) (xs : List ℕ) → IsBytes xs → IsBytes (take n xs)
take_bytes zero xs h i = omega arith
take_bytes (suc n) [] h i = omega arith
take_bytes (suc n) (x ∷ xs) h zero = h zero
take_bytes (suc n) (x ∷ xs) h (suc i) = take_bytes n xs (λ j. h (suc j)) i

-- a number of 64 bits, read with its sign
signed_small : (n : ℕ) → n < 2 ^ 64 → mag (cast_signed w64 n) < 2 ^ 63
signed_small n h = dite (dec_lt n (2 ^ 63))
    (λ low. subst (λ z. mag z < 2 ^ 63) (sym (to_z_pos w64 n low)) low)
    (λ high.
    let k : ℕ = 2 ^ 64 - 1 - n in
    let small : k < 2 ^ 63 = omega arith in
    let is : 2 ^ 64 - suc k ≡ n = omega arith in
    subst (λ z. mag z < 2 ^ 63) (sym (ap (cast_signed w64) (sym is) ∙ to_z-neg w64 k small)) small)

-- ---- chunk files

duration_small : (o : Option ℕ) (header : List ℕ) → IsBytes header → IsDuration o header → IfSome o (λ n. n < 2 ^ 64)
duration_small None header h d = tt
duration_small (Some n) header h d = let e = d.1 in let lt = big_from-lt 0 8 (drop 10 header) (drop_bytes 10 header h) in omega arith

record Begins (c : Chunk) (rest : List ℕ) : Type 0 where
  pub small : IsSmallChunk c
  pub bytes : IsBytes rest

begins_small : (c : Chunk) (bytes rest : List ℕ) → IsBytes bytes → BeginsWith c bytes rest → Begins c rest
begins_small c bytes rest h b =
    let behind : IsBytes (c.bytes ++ rest) = subst IsBytes b.content (drop_bytes 22 bytes h) in
    let time : big_number 8 (drop 1 bytes) < 2 ^ 64 = (let lt = big_from-lt 0 8 (drop 1 bytes) (drop_bytes 1 bytes h) in omega arith) in
    record {
      small = record {
        timestamp = subst (λ z. mag z < 2 ^ 63) (sym b.timestamp) (signed_small (big_number 8 (drop 1 bytes)) time);
        duration = duration_small c.duration bytes h b.duration;
        content = front_bytes c.bytes rest behind;
      };
      bytes = behind_bytes c.bytes rest behind;
    }

all_small : (chunks : List Chunk) (bytes rest : List ℕ) → IsBytes bytes → BeginsWithAll chunks bytes rest → AllByRecursion IsSmallChunk chunks
all_small [] bytes rest h b = tt
all_small (c ∷ cs) bytes rest h b = let k = begins_small c bytes b.0 h b.1 in (k.small, all_small cs b.0 rest k.bytes b.2)

-- ---- native FLAC

frames_small : (laws : FramesAreFound) (info : StreamInfo) (chunks : List Chunk) (n m : ℕ) (bytes rest : List ℕ) → IsBytes bytes → BeginsWithFrames info n m chunks bytes rest → AllByRecursion IsSmallChunk chunks
frames_small laws info [] n m bytes rest h b = tt
frames_small laws info (c ∷ cs) n m bytes rest h b =
    let whole : IsBytes (c.bytes ++ b.1) = subst IsBytes b.3 h in
    let is = b.2 in
    let block : b.0 < 65536 = omega (arith, laws.block info c.bytes is.frame is.is_frame, is.is_block) in
    let duration : b.0 * 1000000 / info.rate < 2 ^ 64 = omega (arith, div-le_self (b.0 * 1000000) info.rate, block) in
    let time : min (n * 1000000 / info.rate) (2 ^ 63 - 1) < 2 ^ 63 = omega arith in
    let small : IsSmallChunk c = record {
      timestamp = subst (λ (x : Chunk). mag x.timestamp < 2 ^ 63) (sym is.is_chunk) time;
      duration = subst (λ (x : Chunk). IfSome x.duration (λ k. k < 2 ^ 64)) (sym is.is_chunk) duration;
      content = front_bytes c.bytes b.1 whole;
    } in
    (small, frames_small laws info cs (n + b.0) m b.1 rest (behind_bytes c.bytes b.1 whole) b.4)

-- ---- WAV

-- what stands in a file: bytes, and no more than it has
record IsOf (n : ℕ) (xs : List ℕ) : Type 0 where
  pub bytes : IsBytes xs
  pub short : length xs ≤ n

parts_of : (size : List ℕ → ℕ) (n skipped at : ℕ) (xs : List ℕ) → IsOf n xs → AllByRecursion (λ (p : Part). IsOf n p.bytes) (parts_in size skipped at xs)
parts_of size n skipped at [] h = tt
parts_of size n (suc k) at (b ∷ bs) h = parts_of size n k (at + 1) bs (record { bytes = λ i. h.bytes (suc i); short = omega (arith, h.short) })
parts_of size n zero at (b ∷ bs) h =
    (h, parts_of size n (size (b ∷ bs) - 1) (at + 1) bs (record { bytes = λ i. h.bytes (suc i); short = omega (arith, h.short) }))

rest_of : (n : ℕ) (rest parts : List Part) (r : Result Format DemuxFault) (f : Format) → AllByRecursion (λ (p : Part). IsOf n p.bytes) rest → with_rest rest r ≡ Ok (f, parts) → AllByRecursion (λ (p : Part). IsOf n p.bytes) parts
rest_of n rest parts (Ok g) f h e = subst (AllByRecursion (λ (p : Part). IsOf n p.bytes)) (let s : ◌≡◌ {A = Format × List Part} (g, rest) (f, parts) = cc in ap (λ (x : Format × List Part). x.1) s) h
rest_of n rest parts (Err g) f h e = absurd (let s : ⊥ = cc in s)

format_rest : (n end : ℕ) (ps parts : List Part) (f : Format) → AllByRecursion (λ (p : Part). IsOf n p.bytes) ps → format_in end ps ≡ Ok (f, parts) → AllByRecursion (λ (p : Part). IsOf n p.bytes) parts
format_rest n end [] parts f h e = absurd (let s : ⊥ = cc in s)
format_rest n end (p ∷ ps) parts f h e =
    by (is_cut p.bytes) (has_id (codes "fmt ") p.bytes) (has_id (codes "data") p.bytes) e (λ g. format_rest n end ps parts f h.1 g)
  where
    by : (a b c : Bool)
        → cond a (Err (fault.BadWav p.at)) (cond b (with_rest ps (format_of p.at p.bytes)) (cond c (Err (fault.BadWav p.at)) (format_in end ps))) ≡ Ok (f, parts)
        → (format_in end ps ≡ Ok (f, parts) → AllByRecursion (λ (p : Part). IsOf n p.bytes) parts) → AllByRecursion (λ (p : Part). IsOf n p.bytes) parts
    by true b c g next = absurd (let s : ⊥ = cc in s)
    by false true c g next = rest_of n ps parts (format_of p.at p.bytes) f h.1 g
    by false false true g next = absurd (let s : ⊥ = cc in s)
    by false false false g next = next g

part_content : (n k : ℕ) (xs : List ℕ) → IsOf n xs → IsOf n (take k (drop 8 xs))
part_content n k xs h = record { bytes = take_bytes k (drop 8 xs) (drop_bytes 8 xs h.bytes); short = omega (arith, h.short, length-take k (drop 8 xs), length-drop 8 xs) }

data_of : (n end : ℕ) (ps : List Part) (d : List ℕ) → AllByRecursion (λ (p : Part). IsOf n p.bytes) ps → data_in end ps ≡ Ok d → IsOf n d
data_of n end [] d h e = absurd (let s : ⊥ = cc in s)
data_of n end (p ∷ ps) d h e = by (is_cut p.bytes) (has_id (codes "data") p.bytes) e (λ g. data_of n end ps d h.1 g)
  where
    by : (a b : Bool) → cond a (Err (fault.BadWav p.at)) (cond b (Ok (take (size_of p.bytes) (drop 8 p.bytes))) (data_in end ps)) ≡ Ok d → (data_in end ps ≡ Ok d → IsOf n d) → IsOf n d
    by true b g next = absurd (let s : ⊥ = cc in s)
    by false true g next = subst (IsOf n) (let s : take (size_of p.bytes) (drop 8 p.bytes) ≡ d = cc in s) (part_content n (size_of p.bytes) p.bytes h.0)
    by false false g next = next g

sound_of : (n end : ℕ) (r : Result (Format × List Part) DemuxFault) (s : Format × List ℕ) → ((f : Format) (ps : List Part) → r ≡ Ok (f, ps) → AllByRecursion (λ (p : Part). IsOf n p.bytes) ps) → data_behind end r ≡ Ok s → IsOf n s.1
sound_of n end (Err e) s h g = absurd (let none : ⊥ = cc in none)
sound_of n end (Ok x) s h g = by (data_in end x.1) refl g
  where
    by : (r : Result (List ℕ) DemuxFault) → data_in end x.1 ≡ r → with_format x.0 r ≡ Ok s → IsOf n s.1
    by (Err e) is k = absurd (let none : ⊥ = cc in none)
    by (Ok d) is k =
        let whole : whole_frames x.0 d ≡ s.1 = cc in
        let all = data_of n end x.1 d (h x.0 x.1 refl) is in
        subst (IsOf n) whole (record {
          bytes = take_bytes (length d / x.0.frame_size * x.0.frame_size) d all.bytes;
          short = omega (arith, all.short, length-take (length d / x.0.frame_size * x.0.frame_size) d);
        })

-- chunk `i` of data of at most 2 ^ 28 bytes
piece_small : (per_chunk : ℕ) (f : Format) (sound : List ℕ) (i : ℕ) → 1 ≤ per_chunk → IsOf 268435456 sound → i < div_ceil (length sound / f.frame_size) per_chunk → IsSmallChunk (chunk_at per_chunk f sound i)
piece_small per_chunk f sound i some h lt =
    let size = per_chunk * f.frame_size in
    let content = take size (drop (i * size) sound) in
    let less = before_less (length sound / f.frame_size) per_chunk i some lt in
    let frames = div-le_self (length sound) f.frame_size in
    let time : i * per_chunk * 1000000 / f.rate < 2 ^ 63 = omega (arith, less, frames, h.short, div-le_self (i * per_chunk * 1000000) f.rate) in
    let short : length content ≤ 268435456 = omega (arith, length-take size (drop (i * size) sound), length-drop (i * size) sound, h.short) in
    let long : length content / f.frame_size * 1000000 / f.rate < 2 ^ 64 =
    omega (arith, short, div-le_self (length content) f.frame_size, div-le_self (length content / f.frame_size * 1000000) f.rate) in
    record { timestamp = time; duration = long; content = take_bytes size (drop (i * size) sound) (drop_bytes (i * size) sound h.bytes) }

pieces_small : (g : ℕ → Chunk) (a n end : ℕ) → a + n ≤ end → ((i : ℕ) → i < end → IsSmallChunk (g i)) → AllByRecursion IsSmallChunk (map g (range_with_len a n))
pieces_small g a zero end le h = tt
pieces_small g a (suc n) end le h = (h a (omega (arith, le)), pieces_small g (a + 1) n end (omega (arith, le)) h)

wav_sound : (per_chunk : ℕ) (r : Result (Format × List ℕ) DemuxFault) (wav : Wav) → wav_by per_chunk r ≡ Ok wav → (s : Format × List ℕ) × (r ≡ Ok s) × (chunks_of per_chunk s.0 s.1 ≡ wav.chunks)
wav_sound per_chunk (Ok s) wav e = (s, refl, let same : wav_with per_chunk s ≡ wav = cc in ap (λ (w : Wav). w.chunks) same)
wav_sound per_chunk (Err f) wav e = absurd (let none : ⊥ = cc in none)

behind_marks : (a b : Bool) (e f : DemuxFault) (r : Result (Format × List ℕ) DemuxFault) (s : Format × List ℕ) → cond a (Err e) (cond b (Err f) r) ≡ Ok s → r ≡ Ok s
behind_marks true b e f r s h = absurd (let none : ⊥ = cc in none)
behind_marks false true e f r s h = absurd (let none : ⊥ = cc in none)
behind_marks false false e f r s h = h

wav_small : (bytes : List ℕ) (wav : Wav) → IsBytes bytes → length bytes ≤ 268435456 → wav_of frames_per_chunk bytes ≡ Ok wav → AllByRecursion IsSmallChunk wav.chunks
wav_small bytes wav h short e =
    let w = wav_sound frames_per_chunk (sound_in bytes) wav e in
    let s = w.0 in
    let end = length bytes in
    let parts = format_in end (parts_from bytes 12) in
    let behind = behind_marks (not (bytes_eq (take 4 bytes) (codes "RIFF"))) (not (bytes_eq (take 4 (drop 8 bytes)) (codes "WAVE"))) (fault.BadWav 0) (fault.BadWav 8) (data_behind end parts) s w.1 in
    let all : IsOf 268435456 (drop 12 bytes) = record { bytes = drop_bytes 12 bytes h; short = omega (arith, short, length-drop 12 bytes) } in
    let each = parts_of whole_size 268435456 0 12 (drop 12 bytes) all in
    let content = sound_of 268435456 end parts s (λ f ps k. format_rest 268435456 end (parts_from bytes 12) ps f each k) behind in
    let count = div_ceil (length s.1 / s.0.frame_size) frames_per_chunk in
    subst (AllByRecursion IsSmallChunk) w.2
    (pieces_small (chunk_at frames_per_chunk s.0 s.1) 0 count count (omega arith) (λ i lt. piece_small frames_per_chunk s.0 s.1 i (omega arith) content lt))

-- ---- media files

pub media_small : FramesAreFound → MediaAreSmall
media_small laws bytes (media.Wav wav) h short is = wav_small bytes wav h short is.1
media_small laws bytes (media.Flac flac) h short is = frames_small laws flac.info flac.chunks 0 flac.frames (drop is.1.place bytes) [] (drop_bytes is.1.place bytes h) is.1.content
media_small laws bytes (media.Chunks chunks) h short is = all_small chunks (drop 4 bytes) [] (drop_bytes 4 bytes h) is.1.content
