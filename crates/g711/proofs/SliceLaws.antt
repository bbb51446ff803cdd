-- Samples, written one after another.
use Rattle.std.proofs.Common.{ℕ, refl, map-id, zero-add, append-nil, ℤ, pos, ◌≡◌, ◌<◌, ◌*◌, ◌+◌, ◌-◌, ◌/◌, ◌*ℤ◌, List, ◌++◌, length, get_or, take, drop, ap, sym, ◌∙◌, arith, add-zero}
use Rattle.std.proofs.lemmas.List.{Concat.flat_map-append, FromFn.map-range_with_len_more}
use Rattle.std.proofs.Math.IntN.{one, *ℤ-one}
use Rattle.std.proofs.lemmas.List.{take_all, length-drop, length-take, get_or-take, get_or-drop}
use Rattle.std.proofs.lemmas.Slice.{take-put_mid}
use borrow.Rule.Slice.PartMut.{put_mid}
use Rattle.std.specs.List.{flat_map, range_with_len}
use Rattle.codec_definitions.specs.{Pcm.spelled, SampleCodecs.decoded_at}
use Rattle.g711.specs.{declared.law.Law.Law, Slices.value_in, Slices.codec_of}

one_more : (f : ℕ → List ℕ) (n : ℕ) → flat_map f (range_with_len 0 (n + 1)) ≡ flat_map f (range_with_len 0 n) ++ f n
one_more f n = let next = simp map-id at (map-range_with_len_more (λ (k : ℕ). k) 0 n n (zero-add n)) in rw (next, flat_map-append) (ap (λ l. flat_map f (range_with_len 0 n) ++ l) (append-nil (f n)))

-- two more bytes are written
pub pair_next : (f : ℕ → List ℕ) (out values : List ℕ) (i n : ℕ) → i < n → length out ≡ 2 * n → values ≡ f i
    → length values ≡ length (take (i * 2 + 2 - i * 2) (drop (i * 2) out)) → take (i * 2) out ≡ flat_map f (range_with_len 0 i)
    → take ((i + 1) * 2) (put_mid (i * 2) (i * 2 + 2 - i * 2) out values) ≡ flat_map f (range_with_len 0 (i + 1))
pair_next f out values i n h l e lv done =
    let two : length values ≡ 2 = omega (arith, lv, length-take (i * 2 + 2 - i * 2) (drop (i * 2) out), length-drop (i * 2) out, h, l) in
    rw (take-put_mid (i * 2) (i * 2 + 2 - i * 2) out values ((i + 1) * 2) (omega (arith, two)) (omega (arith, h, l)), done, e, one_more f i) refl

-- all bytes are written
pub all_written : (f : ℕ → List ℕ) (out : List ℕ) (i n : ℕ) → i ≡ n → length out ≡ 2 * n → take (i * 2) out ≡ flat_map f (range_with_len 0 i) → out ≡ flat_map f (range_with_len 0 (n / 1))
all_written f out i n e l done =
    let all : n / 1 ≡ i = omega (arith, e) in
    sym (take_all (i * 2) out (omega (arith, e, l))) ∙ rw all done

kept : (v : ℤ) → v *ℤ pos 1 ≡ v
unfolding one
kept v = *ℤ-one v

-- a code's sample
pub decoded_here : (l : Law) (codes : List ℕ) (i : ℕ) → spelled 2 (value_in l (get_or codes i 0)) ≡ decoded_at (codec_of l) codes i
decoded_here l codes i =
    let once : 1 * i ≡ i = omega arith in
    let first : get_or (take 1 (drop (1 * i) codes)) 0 0 ≡ get_or codes i 0 = rw once (get_or-take 1 (drop i codes) 0 0 (omega arith) ∙ get_or-drop i codes 0 0 ∙ rw add-zero refl) in
    rw (first, kept) refl
