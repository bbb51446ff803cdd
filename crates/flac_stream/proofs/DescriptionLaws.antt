-- Descriptions of streams: bytes behind one do not change it, and where fewer bytes are the first of one.
use Rattle.std.proofs.Common.{◌≡◌, ◌⊎◌, inl, inr, ⊎_elim, lit<, ℕ, zero, suc, ◌+◌, ◌-◌, ◌*◌, ◌/◌, ◌%◌, ◌^◌, ◌<◌, ◌≤◌, Bool, true, false, cond, is_some, List, [], ◌∷◌, ◌++◌, Option, Some, None, drop, take, length, get_or, replicate, refl, sym, ap, subst, ◌∙◌, arith, append-nil, length-append, length-drop, length-take, eq-eqb}
use Rattle.std.specs.Prelude.{◌&&◌, ◌==◌, nat_le, codes, bytes_eq}
use Rattle.std.proofs.Math.Seq.{take-add}
use Rattle.std.proofs.lemmas.Bool.{le-leb, lt-leb, leb-true, eqb-true}
use Rattle.std.proofs.lemmas.List.{drop_more, drop_all, drop-drop, drop-take, take-take, drop-append-le, take-append-le, get_or-drop, get_or_append_left, get_or-append_right}
use Rattle.std.proofs.lemmas.Slice.Eq.{bytes_eq-Decides}
use Rattle.flac_definitions.specs.BitLaws.{IsBytes}
use Rattle.wc_config.specs.Streams.{big_endian, big_endian_after, bits_of, stream_info_of, is_usable, streaminfo_of}
use Rattle.wc_config.specs.declared.stream_info.StreamInfo.{StreamInfo}
use Rattle.flac_stream.specs.Reading.{all_ones, is_begun}
use Rattle.flac_stream.proofs.BlockLaws.{split}

abbrev block_of : List ℕ → List ℕ
block_of xs = take 34 (drop 8 xs)

-- what is told of bytes by the description that they begin with
record Told (xs : List ℕ) : Type 0 where
  long : 42 ≤ length xs
  mark : take 4 xs ≡ codes "fLaC"
  header : big_endian (take 4 (drop 4 xs)) % 2 ^ 31 ≡ 34
  usable : is_usable (stream_info_of (block_of xs)) ≡ true

none_is : (b : StreamInfo) → None ≡ Some b → ⊥
none_is b e = cc

tests_held : (p q r u : Bool) (a b : StreamInfo) → cond (p && q && r && u) (Some a) None ≡ Some b → (p ≡ true) × (q ≡ true) × (r ≡ true) × (u ≡ true)
tests_held true true true true a b e = (refl, refl, refl, refl)
tests_held true true true false a b e = absurd (none_is b e)
tests_held true true false u a b e = absurd (none_is b e)
tests_held true false r u a b e = absurd (none_is b e)
tests_held false q r u a b e = absurd (none_is b e)

tests_hold : (p q r u : Bool) (a : StreamInfo) → p ≡ true → q ≡ true → r ≡ true → u ≡ true → is_some (cond (p && q && r && u) (Some a) None) ≡ true
tests_hold p q r u a hp hq hr hu = rw (hp, hq, hr, hu) refl

told : (xs : List ℕ) (info : StreamInfo) → streaminfo_of xs ≡ Some info → Told xs
told xs info e =
    let held = tests_held (nat_le 42 (length xs)) (bytes_eq (take 4 xs) (codes "fLaC")) (big_endian (take 4 (drop 4 xs)) % 2 ^ 31 == 34) (is_usable (stream_info_of (block_of xs))) (stream_info_of (block_of xs)) info e in
    let t : Told xs = record {
      long = leb-true 42 (length xs) held.0;
      mark = (bytes_eq-Decides (take 4 xs) (codes "fLaC")).0 held.1;
      header = eqb-true (big_endian (take 4 (drop 4 xs)) % 2 ^ 31) 34 held.2;
      usable = held.3;
    } in t

tells : (xs : List ℕ) → Told xs → is_some (streaminfo_of xs) ≡ true
tells xs t =
    tests_hold (nat_le 42 (length xs)) (bytes_eq (take 4 xs) (codes "fLaC")) (big_endian (take 4 (drop 4 xs)) % 2 ^ 31 == 34) (is_usable (stream_info_of (block_of xs))) (stream_info_of (block_of xs))
    (le-leb 42 (length xs) t.long) ((bytes_eq-Decides (take 4 xs) (codes "fLaC")).1 t.mark) (eq-eqb _ _ t.header) t.usable

-- fewer bytes than a description has are none
pub too_few : (bytes : List ℕ) (info : StreamInfo) → length bytes < 42 → streaminfo_of bytes ≡ Some info → ⊥
too_few bytes info lt e = absurd (omega (arith, lt, (told bytes info e).long))

-- bytes behind a description do not change it
piece : (n i : ℕ) (bytes more : List ℕ) → i + n ≤ length bytes → take n (drop i (bytes ++ more)) ≡ take n (drop i bytes)
piece n i bytes more le =
    ap (take n) (drop-append-le i bytes more (omega (arith, le))) ∙ take-append-le n (drop i bytes) more (omega (arith, le, length-drop i bytes))

pub same_description : (bytes more : List ℕ) → 42 ≤ length bytes → streaminfo_of (bytes ++ more) ≡ streaminfo_of bytes
same_description bytes more long =
    let mark : take 4 (bytes ++ more) ≡ take 4 bytes = take-append-le 4 bytes more (omega (arith, long)) in
    let header : take 4 (drop 4 (bytes ++ more)) ≡ take 4 (drop 4 bytes) = piece 4 4 bytes more (omega (arith, long)) in
    let block : take 34 (drop 8 (bytes ++ more)) ≡ take 34 (drop 8 bytes) = piece 34 8 bytes more (omega (arith, long)) in
    let all : nat_le 42 (length (bytes ++ more)) ≡ nat_le 42 (length bytes) = le-leb 42 (length (bytes ++ more)) (omega (arith, long, length-append bytes more)) ∙ sym (le-leb 42 (length bytes) long) in
    rw (mark, header, block, all) refl

-- ---- byte by byte

taken_next : (n : ℕ) (xs : List ℕ) (i : ℕ) → i < length xs → take (suc n) (drop i xs) ≡ get_or xs i 0 ∷ take n (drop (i + 1) xs)
taken_next n xs i lt = ap (take (suc n)) (drop_more xs i 0 lt)

four : (n : ℕ) (xs : List ℕ) (i : ℕ) → i + 4 ≤ length xs → take (suc (suc (suc (suc n)))) (drop i xs) ≡ get_or xs i 0 ∷ get_or xs (i + 1) 0 ∷ get_or xs (i + 2) 0 ∷ get_or xs (i + 3) 0 ∷ take n (drop (i + 4) xs)
four n xs i le =
    let one = taken_next (suc (suc (suc n))) xs i (omega (arith, le)) in
    let two = taken_next (suc (suc n)) xs (i + 1) (omega (arith, le)) in
    let three = taken_next (suc n) xs (i + 2) (omega (arith, le)) in
    let last = taken_next n xs (i + 3) (omega (arith, le)) in
    let a : i + 1 + 1 ≡ i + 2 = omega arith in
    let b : i + 2 + 1 ≡ i + 3 = omega arith in
    let c : i + 3 + 1 ≡ i + 4 = omega arith in
    one ∙ ap (λ (l : List ℕ). get_or xs i 0 ∷ l) (two ∙ ap (λ (l : List ℕ). get_or xs (i + 1) 0 ∷ l)
    (ap (λ k. take (suc (suc n)) (drop k xs)) a ∙ three ∙ ap (λ (l : List ℕ). get_or xs (i + 2) 0 ∷ l)
    (ap (λ k. take (suc n) (drop k xs)) b ∙ last ∙ ap (λ (l : List ℕ). get_or xs (i + 3) 0 ∷ l) (ap (λ k. take n (drop k xs)) c))))

big_endian_append : (n : ℕ) (xs ys : List ℕ) → big_endian_after n (xs ++ ys) ≡ big_endian_after (big_endian_after n xs) ys
big_endian_append n [] ys = refl
big_endian_append n (b ∷ bs) ys = big_endian_append (256 * n + b) bs ys

-- the last eight bytes of a block's fields
last_eight : (xs : List ℕ) → 42 ≤ length xs → take 8 (drop 10 (block_of xs)) ≡ take 8 (drop 18 xs)
last_eight xs long = ap (take 8) (drop-take 10 24 (drop 8 xs) ∙ ap (take 24) (drop-drop 10 8 xs)) ∙ take-take 8 24 (drop 18 xs) (omega arith)

-- the rate and the depth, by the bytes that hold them
fields : (h c a b x y p q r s : ℕ) → a < 256 → b < 256 → x < 256 → y < 256 → p < 256 → q < 256 → r < 256 → s < 256 → c ≡ a * 2 ^ 56 + b * 2 ^ 48 + x * 2 ^ 40 + y * 2 ^ 32 + p * 2 ^ 24 + q * 2 ^ 16 + r * 2 ^ 8 + s
    → (c < 2 ^ 64) × (c / 2 ^ 44 ≡ a * 4096 + b * 16 + x / 16) × (c / 2 ^ 36 % 2 ^ 5 ≡ x % 2 * 16 + y / 16)
fields h c a b x y p q r s ha hb hx hy hp hq hr hs e = (omega (arith, ha, hb, hx, hy, hp, hq, hr, hs, e), omega (arith, ha, hb, hx, hy, hp, hq, hr, hs, e), omega (arith, ha, hb, hx, hy, hp, hq, hr, hs, e))

in_last : (h c n : ℕ) → c < 2 ^ 64 → n ≡ h * 2 ^ 64 + c → (bits_of 144 80 20 n ≡ c / 2 ^ 44) × (bits_of 144 103 5 n ≡ c / 2 ^ 36 % 2 ^ 5)
in_last h c n lt e = (omega (arith, lt, e), omega (arith, lt, e))

rate_and_depth : (xs : List ℕ) → IsBytes xs → 42 ≤ length xs
    → ((stream_info_of (block_of xs)).rate ≡ get_or xs 18 0 * 4096 + get_or xs 19 0 * 16 + get_or xs 20 0 / 16) × ((stream_info_of (block_of xs)).depth ≡ get_or xs 20 0 % 2 * 16 + get_or xs 21 0 / 16 + 1)
rate_and_depth xs own long =
    let block = block_of xs in
    let h = big_endian_after 0 (take 10 block) in
    let eight : take 8 (drop 10 block) ≡ get_or xs 18 0 ∷ get_or xs 19 0 ∷ get_or xs 20 0 ∷ get_or xs 21 0 ∷ get_or xs 22 0 ∷ get_or xs 23 0 ∷ get_or xs 24 0 ∷ get_or xs 25 0 ∷ [] =
    last_eight xs long ∙ four 4 xs 18 (omega (arith, long)) ∙ ap (λ (l : List ℕ). get_or xs 18 0 ∷ get_or xs 19 0 ∷ get_or xs 20 0 ∷ get_or xs 21 0 ∷ l) (four 0 xs 22 (omega (arith, long))) in
    let whole : big_endian (take 18 block) ≡ big_endian_after h (take 8 (drop 10 block)) = ap big_endian (take-add 10 8 block) ∙ big_endian_append 0 (take 10 block) (take 8 (drop 10 block)) in
    let sum = whole ∙ ap (big_endian_after h) eight in
    let c = get_or xs 18 0 * 2 ^ 56 + get_or xs 19 0 * 2 ^ 48 + get_or xs 20 0 * 2 ^ 40 + get_or xs 21 0 * 2 ^ 32 + get_or xs 22 0 * 2 ^ 24 + get_or xs 23 0 * 2 ^ 16 + get_or xs 24 0 * 2 ^ 8 + get_or xs 25 0 in
    let f = fields h c (get_or xs 18 0) (get_or xs 19 0) (get_or xs 20 0) (get_or xs 21 0) (get_or xs 22 0) (get_or xs 23 0) (get_or xs 24 0) (get_or xs 25 0) (own 18) (own 19) (own 20) (own 21) (own 22) (own 23) (own 24) (own 25) refl in
    let n : big_endian (take 18 block) ≡ h * 2 ^ 64 + c = omega (arith, sum) in
    let l = in_last h c (big_endian (take 18 block)) f.0 n in
    (l.0 ∙ f.1, ap (λ k. k + 1) (l.1 ∙ f.2))

usable_by : (rate depth : ℕ) (info : StreamInfo) → info.rate ≡ rate → info.depth ≡ depth → 1 ≤ rate → 4 ≤ depth → is_usable info ≡ true
usable_by rate depth info r d some deep = let a : nat_le 1 info.rate ≡ true = le-leb 1 info.rate (omega (arith, r, some)) in let b : nat_le 4 info.depth ≡ true = le-leb 4 info.depth (omega (arith, d, deep)) in rw (a, b) refl

both : (p q : Bool) → (p && q) ≡ true → (p ≡ true) × (q ≡ true)
both true true e = (refl, refl)
both true false e = absurd (let n : ⊥ = cc in n)
both false q e = absurd (let n : ⊥ = cc in n)

used : (info : StreamInfo) → is_usable info ≡ true → (1 ≤ info.rate) × (4 ≤ info.depth)
used info e = let t = both (nat_le 1 info.rate) (nat_le 4 info.depth) e in (leb-true 1 info.rate t.0, leb-true 4 info.depth t.1)

-- ---- bytes filled up

-- a byte is the same, or one of the fill
filled : (bytes more : List ℕ) (i : ℕ) → length bytes < 42
    → (get_or (bytes ++ drop (length bytes) all_ones) i 0 ≡ get_or (bytes ++ more) i 0) ⊎ (get_or (bytes ++ drop (length bytes) all_ones) i 0 ≡ get_or all_ones i 0)
filled bytes more i lt =
    let ones = drop (length bytes) all_ones in
    ⊎_elim
    (λ (inside : i < length bytes). inl (get_or_append_left bytes ones 0 i inside ∙ sym (get_or_append_left bytes more 0 i inside)))
    (λ (behind : length bytes ≤ i).
    let at : length bytes + (i - length bytes) ≡ i = omega (arith, behind) in
    inr (get_or-append_right bytes ones (length bytes) i 0 refl behind ∙ get_or-drop (length bytes) all_ones (i - length bytes) 0 ∙ ap (λ k. get_or all_ones k 0) at))
    (split i (length bytes))

pub fits_both : (bytes more : List ℕ) → IsBytes bytes → IsBytes more → IsBytes (bytes ++ more)
fits_both bytes more own fits i =
    ⊎_elim
    (λ (inside : i < length bytes). omega (arith, own i, get_or_append_left bytes more 0 i inside))
    (λ (behind : length bytes ≤ i). omega (arith, fits (i - length bytes), get_or-append_right bytes more (length bytes) i 0 refl behind))
    (split i (length bytes))

kept : (f o n : ℕ) → (f ≡ o) ⊎ (f ≡ n) → o ≡ n → f ≡ n
kept f o n either e = ⊎_elim (λ (same : f ≡ o). same ∙ e) (λ (fill : f ≡ n). fill) either

kept_first : (f o : ℕ) → (f ≡ o) ⊎ (f ≡ 128) → o < 256 → o % 128 ≡ 0 → (f < 256) × (f % 128 ≡ 0)
kept_first f o either lt e = ⊎_elim (λ (same : f ≡ o). (omega (arith, same, lt), omega (arith, same, e))) (λ (fill : f ≡ 128). (omega (arith, fill), omega (arith, fill))) either

-- no less, nor its last bit
above : (f o : ℕ) → (f ≡ o) ⊎ (f ≡ 255) → o < 256 → (o ≤ f) × (o % 2 ≤ f % 2) × (f < 256)
above f o either lt = ⊎_elim (λ (same : f ≡ o). (omega (arith, same), omega (arith, same), omega (arith, same, lt))) (λ (fill : f ≡ 255). (omega (arith, fill, lt), omega (arith, fill, lt), omega (arith, fill))) either

header_bytes : (a b c d : ℕ) → a < 256 → b < 256 → c < 256 → d < 256 → big_endian (a ∷ b ∷ c ∷ d ∷ []) % 2 ^ 31 ≡ 34 → (a % 128 ≡ 0) × (b ≡ 0) × (c ≡ 0) × (d ≡ 34)
header_bytes a b c d ha hb hc hd e = (omega (arith, ha, hb, hc, hd, e), omega (arith, ha, hb, hc, hd, e), omega (arith, ha, hb, hc, hd, e), omega (arith, ha, hb, hc, hd, e))

bytes_header : (a b c d : ℕ) → a < 256 → a % 128 ≡ 0 → b ≡ 0 → c ≡ 0 → d ≡ 34 → big_endian (a ∷ b ∷ c ∷ d ∷ []) % 2 ^ 31 ≡ 34
bytes_header a b c d ha a0 b0 c0 d0 = omega (arith, ha, a0, b0, c0, d0)

pub filled_long : (bytes : List ℕ) → length bytes < 42 → length (bytes ++ drop (length bytes) all_ones) ≡ 42
filled_long bytes lt = omega (arith, lt, length-append bytes (drop (length bytes) all_ones), length-drop (length bytes) all_ones)

replicate_fit : (n i : ℕ) → get_or (replicate n 255) i 0 < 256
replicate_fit zero i = lit< tt
replicate_fit (suc n) zero = lit< tt
replicate_fit (suc n) (suc i) = replicate_fit n i

ones_fit : IsBytes all_ones
ones_fit zero = lit< tt
ones_fit (suc zero) = lit< tt
ones_fit (suc (suc zero)) = lit< tt
ones_fit (suc (suc (suc zero))) = lit< tt
ones_fit (suc (suc (suc (suc zero)))) = lit< tt
ones_fit (suc (suc (suc (suc (suc zero))))) = lit< tt
ones_fit (suc (suc (suc (suc (suc (suc zero)))))) = lit< tt
ones_fit (suc (suc (suc (suc (suc (suc (suc zero))))))) = lit< tt
ones_fit (suc (suc (suc (suc (suc (suc (suc (suc i)))))))) = replicate_fit 34 i

pub ones_after : (n : ℕ) → IsBytes (drop n all_ones)
ones_after n i = omega (arith, get_or-drop n all_ones i 0, ones_fit (n + i))

module _ (bytes more : List ℕ) (lt : length bytes < 42) (own : IsBytes bytes) (fits : IsBytes more) (t : Told (bytes ++ more)) where
  abbrev f : List ℕ
  f = bytes ++ drop (length bytes) all_ones

  abbrev o : List ℕ
  o = bytes ++ more

  at : (i : ℕ) → (get_or f i 0 ≡ get_or o i 0) ⊎ (get_or f i 0 ≡ get_or all_ones i 0)
  at i = filled bytes more i lt

  small : IsBytes o
  small = fits_both bytes more own fits

  long_f : 42 ≤ length f
  long_f = omega (arith, filled_long bytes lt)

  mark_f : take 4 f ≡ codes "fLaC"
  mark_f =
      let e : get_or o 0 0 ∷ get_or o 1 0 ∷ get_or o 2 0 ∷ get_or o 3 0 ∷ [] ≡ codes "fLaC" = sym (four 0 o 0 (omega (arith, t.long))) ∙ t.mark in
      let a = kept (get_or f 0 0) (get_or o 0 0) 102 (at 0) (ap (λ (l : List ℕ). get_or l 0 0) e) in
      let b = kept (get_or f 1 0) (get_or o 1 0) 76 (at 1) (ap (λ (l : List ℕ). get_or l 1 0) e) in
      let c = kept (get_or f 2 0) (get_or o 2 0) 97 (at 2) (ap (λ (l : List ℕ). get_or l 2 0) e) in
      let d = kept (get_or f 3 0) (get_or o 3 0) 67 (at 3) (ap (λ (l : List ℕ). get_or l 3 0) e) in
      let g : get_or f 0 0 ∷ get_or f 1 0 ∷ get_or f 2 0 ∷ get_or f 3 0 ∷ [] ≡ codes "fLaC" = rw (a, b, c, d) refl in
      four 0 f 0 (omega (arith, long_f)) ∙ g

  header_f : big_endian (take 4 (drop 4 f)) % 2 ^ 31 ≡ 34
  header_f =
      let e : big_endian (get_or o 4 0 ∷ get_or o 5 0 ∷ get_or o 6 0 ∷ get_or o 7 0 ∷ []) % 2 ^ 31 ≡ 34 = ap (λ (l : List ℕ). big_endian l % 2 ^ 31) (sym (four 0 o 4 (omega (arith, t.long)))) ∙ t.header in
      let h = header_bytes (get_or o 4 0) (get_or o 5 0) (get_or o 6 0) (get_or o 7 0) (small 4) (small 5) (small 6) (small 7) e in
      let a = kept_first (get_or f 4 0) (get_or o 4 0) (at 4) (small 4) h.0 in
      let b = kept (get_or f 5 0) (get_or o 5 0) 0 (at 5) h.1 in
      let c = kept (get_or f 6 0) (get_or o 6 0) 0 (at 6) h.2 in
      let d = kept (get_or f 7 0) (get_or o 7 0) 34 (at 7) h.3 in
      ap (λ (l : List ℕ). big_endian l % 2 ^ 31) (four 0 f 4 (omega (arith, long_f))) ∙ bytes_header (get_or f 4 0) (get_or f 5 0) (get_or f 6 0) (get_or f 7 0) a.0 a.1 b c d

  small_f : IsBytes f
  small_f = fits_both bytes (drop (length bytes) all_ones) own (ones_after (length bytes))

  usable_f : is_usable (stream_info_of (block_of f)) ≡ true
  usable_f =
      let u = used (stream_info_of (block_of o)) t.usable in
      let mine = rate_and_depth f small_f long_f in
      let theirs = rate_and_depth o small t.long in
      let a = above (get_or f 18 0) (get_or o 18 0) (at 18) (small 18) in
      let b = above (get_or f 19 0) (get_or o 19 0) (at 19) (small 19) in
      let c = above (get_or f 20 0) (get_or o 20 0) (at 20) (small 20) in
      let d = above (get_or f 21 0) (get_or o 21 0) (at 21) (small 21) in
      usable_by _ _ (stream_info_of (block_of f)) mine.0 mine.1 (omega (arith, u.0, theirs.0, a.0, b.0, c.0)) (omega (arith, u.1, theirs.1, c.1, d.0))

  is_told : Told f
  is_told = record { long = long_f; mark = mark_f; header = header_f; usable = usable_f }

-- where more bytes make a description, all ones do
pub begun : (bytes more : List ℕ) (info : StreamInfo) → length bytes < 42 → IsBytes bytes → IsBytes more → streaminfo_of (bytes ++ more) ≡ Some info → is_begun bytes ≡ true
begun bytes more info lt own fits e = tells (bytes ++ drop (length bytes) all_ones) (is_told bytes more lt own fits (told (bytes ++ more) info e))
