-- Bounds of samples, and bytes of frames.
use Rattle.std.proofs.Common.{◌≡◌, ℕ, zero, suc, ◌+◌, ◌-◌, ◌*◌, ◌%◌, ◌^◌, ◌<◌, ◌≤◌, ℤ, pos, Option, Some, None, List, [], ◌∷◌, ◌++◌, length, length-take, length-drop, take, drop, get_or, refl, sym, ap, ◌∙◌, arith, append_assoc, append-nil}
use Rattle.std.specs.Prelude.{◌*ℤ◌, unsigned_abs}
use Rattle.std.specs.List.{flat_map, range_with_len}
use Rattle.std.proofs.lemmas.Int.{to_z-of_z, unsigned_abs-mul}
use Rattle.std.proofs.lemmas.Nat.{one_shl, mul-le}
use Rattle.std.proofs.Math.Nat.{pow-le-pow_right}
use Rattle.std.proofs.lemmas.Slice.{take-put_mid}
use borrow.Rule.Slice.PartMut.{put_mid, same_len_mid}
use mir.Val.{to_z, of_z, SFits}
use mir.Syntax.{w64}
use Rattle.flac_decode.specs.Bounds.{AreSmall}
use Rattle.flac_definitions.specs.Stereo.{channel_pair}
use Rattle.flac_decode.proofs.ProductLaws.{fits_small, small_cast}
use Rattle.flac_decode.proofs.RestoreLaws.{same_head}

pub small_append : (n : ℕ) (xs ys : List ℤ) → AreSmall n xs → AreSmall n ys → AreSmall n (xs ++ ys)
small_append n [] ys h k i = k i
small_append n (x ∷ xs) ys h k zero = h 0
small_append n (x ∷ xs) ys h k (suc i) = small_append n xs ys (λ j. h (suc j)) k i

pub small_up : (m n : ℕ) (xs : List ℤ) → m ≤ n → AreSmall m xs → AreSmall n xs
small_up m n xs h small i =
    let p : 2 ^ m ≤ 2 ^ n = pow-le-pow_right {n = 2} (omega arith) h in
    omega (arith, p, small i)

-- a sample times a power of two
pub shifted_value : (s : ℤ) (w : ℕ) → SFits w64 s → w ≤ 16 → unsigned_abs s ≤ 2 ^ 32
    → (to_z w64 (of_z w64 s) *ℤ to_z w64 (1 * 2 ^ w % 2 ^ 64) ≡ s *ℤ pos (2 ^ w)) × SFits w64 (to_z w64 (of_z w64 s) *ℤ to_z w64 (1 * 2 ^ w % 2 ^ 64))
shifted_value s w f h small =
    let p : 1 * 2 ^ w % 2 ^ 64 ≡ 2 ^ w = one_shl w 64 (omega arith) in
    let q : 2 ^ w ≤ 2 ^ 16 = pow-le-pow_right {n = 2} (omega arith) h in
    let t : to_z w64 (2 ^ w) ≡ pos (2 ^ w) = small_cast (2 ^ w) (omega (arith, q)) in
    let a : unsigned_abs (s *ℤ pos (2 ^ w)) ≡ unsigned_abs s * 2 ^ w = unsigned_abs-mul s (pos (2 ^ w)) in
    let b : unsigned_abs s * 2 ^ w ≤ 2 ^ 32 * 2 ^ 16 = mul-le (unsigned_abs s) (2 ^ w) (2 ^ 32) (2 ^ 16) small q in
    let e : to_z w64 (of_z w64 s) *ℤ to_z w64 (1 * 2 ^ w % 2 ^ 64) ≡ s *ℤ pos (2 ^ w) = ap (λ (x : ℤ). x *ℤ to_z w64 (1 * 2 ^ w % 2 ^ 64)) (to_z-of_z w64 s f) ∙ ap (λ (n : ℕ). s *ℤ to_z w64 n) p ∙ ap (λ (x : ℤ). s *ℤ x) t in
    (e, fits_small (to_z w64 (of_z w64 s) *ℤ to_z w64 (1 * 2 ^ w % 2 ^ 64)) (omega (arith, ap unsigned_abs e, a, b)))

flat_map_push : (f : ℕ → List ℕ) (a n : ℕ) → flat_map f (range_with_len a (suc n)) ≡ flat_map f (range_with_len a n) ++ f (a + n)
flat_map_push f a zero = append-nil (f a) ∙ ap f (omega arith)
flat_map_push f a (suc n) =
    ap (λ (zs : List ℕ). f a ++ zs) (flat_map_push f (a + 1) n ∙ ap (λ k. flat_map f (range_with_len (a + 1) n) ++ f k) (omega arith))
    ∙ sym (append_assoc (f a) (flat_map f (range_with_len (a + 1) n)) (f (a + suc n)))

-- one more part behind
pub flat_map_more : (f : ℕ → List ℕ) (i : ℕ) → flat_map f (range_with_len 0 (i + 1)) ≡ flat_map f (range_with_len 0 i) ++ f i
flat_map_more f i = ap (λ k. flat_map f (range_with_len 0 k)) (let q : i + 1 ≡ suc i = omega arith in q) ∙ flat_map_push f 0 i ∙ ap (λ k. flat_map f (range_with_len 0 i) ++ f k) (let q : 0 + i ≡ i = omega arith in q)

-- a part lies within
pub part_within : (i n each : ℕ) → i < n → i * each + each ≤ n * each
part_within i n each h = omega (arith, mul-le (i + 1) each n each (omega arith) (omega arith))

-- one more part of bytes is written
pub part_next : (f : ℕ → List ℕ) (out values : List ℕ) (i n each : ℕ) → i < n → length out ≡ n * each → values ≡ f i
    → length values ≡ length (take (i * each + each - i * each) (drop (i * each) out)) → take (i * each) out ≡ flat_map f (range_with_len 0 i)
    → (length (put_mid (i * each) (i * each + each - i * each) out values) ≡ length out) × (take ((i + 1) * each) (put_mid (i * each) (i * each + each - i * each) out values) ≡ flat_map f (range_with_len 0 (i + 1)))
part_next f out values i n each h l e lv done =
    let a = i * each in
    let within = part_within i n each h in
    let part : length (take (a + each - a) (drop a out)) ≡ each = omega (arith, length-take (a + each - a) (drop a out), length-drop a out, within) in
    let s : (i + 1) * each ≡ a + length values = omega (arith, lv, part) in (
      same_len_mid a (a + each - a) out values lv,
      take-put_mid a (a + each - a) out values ((i + 1) * each) s (omega (arith, within))
          ∙ ap (λ (zs : List ℕ). zs ++ values) done ∙ ap (λ (zs : List ℕ). flat_map f (range_with_len 0 i) ++ zs) e ∙ sym (flat_map_more f i),
    )

-- a sample that was not yet changed
pub small_here : (cur old : List ℤ) (i : ℕ) → i < length cur → i < length old → drop i cur ≡ drop i old → AreSmall 32 old → unsigned_abs (get_or cur i (pos 0)) ≤ 2 ^ 32
small_here cur old i h k rest small = omega (arith, ap unsigned_abs (same_head cur old i h k rest), small i)

pub small_plain : (x : ℤ) → unsigned_abs x ≤ 2 ^ 32 → unsigned_abs (to_z w64 (of_z w64 x)) ≤ 2 ^ 32
small_plain x h = omega (arith, ap unsigned_abs (to_z-of_z w64 x (fits_small x (omega arith))), h)

pub plain_value : (f : ℤ → ℤ → ℤ) (v a b : ℤ) → unsigned_abs a ≤ 2 ^ 32 → unsigned_abs b ≤ 2 ^ 32 → v ≡ f (to_z w64 (of_z w64 a)) (to_z w64 (of_z w64 b)) → v ≡ f a b
plain_value f v a b h k e =
    e ∙ ap (λ (z : ℤ). f z (to_z w64 (of_z w64 b))) (to_z-of_z w64 a (fits_small a (omega arith))) ∙ ap (λ (z : ℤ). f a z) (to_z-of_z w64 b (fits_small b (omega arith)))

pub pair_none : (o : Option (List ℤ)) → channel_pair o None ≡ None
pair_none None = refl
pair_none (Some xs) = refl
