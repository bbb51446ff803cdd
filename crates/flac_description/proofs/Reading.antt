-- What spells a description is read as it.
use Rattle.std.proofs.Common.{ℕ, zero, suc, lit<, ◌≡◌, ◌<◌, ◌≤◌, ◌-◌, ◌*◌, ◌/◌, ◌%◌, ◌^◌, Bool, true, false, cond, List, [], ◌∷◌, ◌++◌, length, take, drop, Some, None, refl, sym, ap, ◌∙◌, arith, append_assoc, append-nil, length-append, length-take, length-drop, mod-eq_of_lt, eq-eqb}
use Rattle.std.specs.Prelude.{◌&&◌, nat_le, bytes_eq, codes, ◌==◌}
use Rattle.std.proofs.lemmas.Bool.{le-leb}
use Rattle.std.proofs.lemmas.Slice.Eq.{bytes_eq-Decides}
use Rattle.flac_definitions.specs.Bits.{bits_of, number_of, bits_in}
use Rattle.flac_definitions.specs.BitLaws.{IsBytes, length-bits_of, number_of-bits_of, number_of-middle, length-bits_in}
use Rattle.wc_config.specs.Streams.{big_endian, stream_info_of, is_usable, streaminfo_of}
use Rattle.wc_config.specs.declared.stream_info.StreamInfo.{StreamInfo}
use Rattle.flac_definitions.specs.Descriptions.{CanBeWritten, field_bits, description_bits}
use Rattle.flac_description.specs.Laws.{Spells}
use Rattle.flac_description.proofs.Lists.{halves, same_bytes, take_fits, drop_fits, spelled_number, parts, bits_of_parts, regroup}

-- a field of a number, with bits before and behind it
field : (w xs zs : List Bool) (a k v : ℕ) → w ≡ xs ++ (bits_of k v ++ zs) → length zs ≡ a → v < 2 ^ k → number_of w / 2 ^ a % 2 ^ k ≡ v
field w xs zs a k v e l small =
    let n = number_of (xs ++ (bits_of k v ++ zs)) in
    ap (λ (t : List Bool). number_of t / 2 ^ a % 2 ^ k) e
    ∙ (ap (λ (m : ℕ). n / 2 ^ m % 2 ^ k) (sym l)
    ∙ (ap (λ (m : ℕ). n / 2 ^ length zs % 2 ^ m) (sym (length-bits_of k v))
    ∙ (number_of-middle xs (bits_of k v) zs ∙ (number_of-bits_of k v ∙ mod-eq_of_lt small))))

same_stream : (i : StreamInfo) (a b c d e f g h : ℕ) (m : List ℕ) → a ≡ i.min_block → b ≡ i.max_block → c ≡ i.min_frame → d ≡ i.max_frame → e ≡ i.rate → f ≡ i.channels → g ≡ i.depth → h ≡ i.total → m ≡ i.md5 →
    record { min_block = a; max_block = b; min_frame = c; max_frame = d; rate = e; channels = f; depth = g; total = h; md5 = m } ≡ i
same_stream i a b c d e f g h m pa pb pc pd pe pf pg ph pm = rw (pa, pb, pc, pd, pe, pf, pg, ph, pm) refl

-- the fields of a block's bytes
block_read : (block : List ℕ) (info : StreamInfo) → CanBeWritten info → big_endian (take 18 block) ≡ number_of (field_bits info) → drop 18 block ≡ info.md5 → stream_info_of block ≡ info
block_read block info fits number sum =
    let n = big_endian (take 18 block) in
    let a = bits_of 16 info.min_block in let b = bits_of 16 info.max_block in
    let c = bits_of 24 info.min_frame in let d = bits_of 24 info.max_frame in
    let e = bits_of 20 info.rate in let f = bits_of 3 (info.channels - 1) in
    let g = bits_of 5 (info.depth - 1) in let h = bits_of 36 info.total in
    let w = field_bits info in
    let at : (k j : ℕ) → n / 2 ^ k % 2 ^ j ≡ number_of w / 2 ^ k % 2 ^ j = λ k j. ap (λ (x : ℕ). x / 2 ^ k % 2 ^ j) number in
    let channels : n / 2 ^ 41 % 2 ^ 3 ≡ info.channels - 1 = at 41 3 ∙ field w (a ++ b ++ c ++ d ++ e) (g ++ h) 41 3 (info.channels - 1) (simp append_assoc refl) (simp (length-append, length-bits_of) refl) (omega (arith, fits.few_channels)) in
    let depth : n / 2 ^ 36 % 2 ^ 5 ≡ info.depth - 1 = at 36 5 ∙ field w (a ++ b ++ c ++ d ++ e ++ f) h 36 5 (info.depth - 1) (simp append_assoc refl) (length-bits_of 36 info.total) (omega (arith, fits.few_depth)) in
    same_stream info _ _ _ _ _ _ _ _ _
    (at 128 16 ∙ field w [] (b ++ c ++ d ++ e ++ f ++ g ++ h) 128 16 info.min_block (simp append_assoc refl) (simp (length-append, length-bits_of) refl) fits.min_block)
    (at 112 16 ∙ field w a (c ++ d ++ e ++ f ++ g ++ h) 112 16 info.max_block (simp append_assoc refl) (simp (length-append, length-bits_of) refl) fits.max_block)
    (at 88 24 ∙ field w (a ++ b) (d ++ e ++ f ++ g ++ h) 88 24 info.min_frame (simp append_assoc refl) (simp (length-append, length-bits_of) refl) fits.min_frame)
    (at 64 24 ∙ field w (a ++ b ++ c) (e ++ f ++ g ++ h) 64 24 info.max_frame (simp append_assoc refl) (simp (length-append, length-bits_of) refl) fits.max_frame)
    (at 44 20 ∙ field w (a ++ b ++ c ++ d) (f ++ g ++ h) 44 20 info.rate (simp append_assoc refl) (simp (length-append, length-bits_of) refl) fits.rate)
    (omega (arith, channels, fits.some_channels))
    (omega (arith, depth, fits.some_depth))
    (at 0 36 ∙ field w (a ++ b ++ c ++ d ++ e ++ f ++ g) [] 0 36 info.total (simp (append_assoc, append-nil) refl) refl fits.total)
    sum

-- all four tests hold
tests_hold : (p q r : Bool) (a b : StreamInfo) → p ≡ true → q ≡ true → r ≡ true → a ≡ b → is_usable b ≡ true → cond (p && q && r && is_usable a) (Some a) None ≡ Some b
tests_hold p q r a b hp hq hr e u = rw (e, hp, hq, hr, u) refl

-- the number of the block's header
header_number : (last : Bool) → number_of ((last ∷ []) ++ bits_of 7 0 ++ bits_of 24 34) % 2 ^ 31 ≡ 34
unfolding bits_of number_of
header_number true = refl
header_number false = refl

four_fit : (a b c d : ℕ) → a < 256 → b < 256 → c < 256 → d < 256 → IsBytes (a ∷ b ∷ c ∷ d ∷ [])
four_fit a b c d ha hb hc hd zero = ha
four_fit a b c d ha hb hc hd (suc zero) = hb
four_fit a b c d ha hb hc hd (suc (suc zero)) = hc
four_fit a b c d ha hb hc hd (suc (suc (suc zero))) = hd
four_fit a b c d ha hb hc hd (suc (suc (suc (suc i)))) = lit< tt

mark_fits : IsBytes (codes "fLaC")
mark_fits = four_fit 102 76 97 67 (lit< tt) (lit< tt) (lit< tt) (lit< tt)

pub spelled_is_read : (info : StreamInfo) (bytes : List ℕ) → IsBytes bytes → Spells bytes info → streaminfo_of bytes ≡ Some info
spelled_is_read info bytes own s =
    let m = take 4 bytes in let h = take 4 (drop 4 bytes) in
    let block = take 34 (drop 8 bytes) in
    let f = take 18 block in let t = drop 18 block in
    let header = (s.last ∷ []) ++ bits_of 7 0 ++ bits_of 24 34 in
    let count : length (description_bits s.last info) ≡ 336 = simp (length-append, length-bits_of, length-bits_in, s.sum) refl in
    let long : 42 ≤ length bytes = omega (arith, count, ap (λ (l : List Bool). length l) s.bits, length-bits_in (take 42 bytes), length-take 42 bytes) in
    let whole : bits_in m ++ (bits_in h ++ (bits_in f ++ bits_in t)) ≡ bits_in (codes "fLaC") ++ (header ++ (field_bits info ++ bits_in info.md5)) =
    sym (ap bits_in (parts bytes) ∙ bits_of_parts m h f t) ∙ (s.bits ∙ regroup (bits_in (codes "fLaC")) (s.last ∷ []) (bits_of 7 0) (bits_of 24 34) (field_bits info) (bits_in info.md5)) in
    let one = halves (bits_in m) (bits_in (codes "fLaC")) _ _ (length-bits_in m ∙ (ap (λ (n : ℕ). 8 * n) (let e : length m ≡ 4 = omega (arith, length-take 4 bytes) in e) ∙ sym (length-bits_in (codes "fLaC")))) whole in
    let two = halves (bits_in h) header _ _ (length-bits_in h ∙ (ap (λ (n : ℕ). 8 * n) (let e : length h ≡ 4 = omega (arith, length-take 4 (drop 4 bytes), length-drop 4 bytes) in e) ∙ sym (simp (length-append, length-bits_of) refl))) one.1 in
    let long_f : length f ≡ 18 = omega (arith, length-take 18 block, length-take 34 (drop 8 bytes), length-drop 8 bytes) in
    let three = halves (bits_in f) (field_bits info) _ _ (length-bits_in f ∙ (ap (λ (n : ℕ). 8 * n) long_f ∙ sym (simp (length-append, length-bits_of) refl))) two.1 in
    let own_h = take_fits 4 (drop 4 bytes) (drop_fits 4 bytes own) in
    let own_block = take_fits 34 (drop 8 bytes) (drop_fits 8 bytes own) in
    let mark : m ≡ codes "fLaC" = same_bytes m (codes "fLaC") (take_fits 4 bytes own) mark_fits one.0 in
    let number : big_endian h % 2 ^ 31 ≡ 34 = ap (λ (n : ℕ). n % 2 ^ 31) (spelled_number h own_h ∙ ap number_of two.0) ∙ header_number s.last in
    let fields : big_endian f ≡ number_of (field_bits info) = spelled_number f (take_fits 18 block own_block) ∙ ap number_of three.0 in
    let sum : t ≡ info.md5 = same_bytes t info.md5 (drop_fits 18 block own_block) s.sum_bytes three.1 in
    tests_hold (nat_le 42 (length bytes)) (bytes_eq m (codes "fLaC")) (big_endian h % 2 ^ 31 == 34) (stream_info_of block) info
    (le-leb 42 (length bytes) long) ((bytes_eq-Decides m (codes "fLaC")).1 mark) (eq-eqb _ _ number)
    (block_read block info s.fields fields sum) s.usable
