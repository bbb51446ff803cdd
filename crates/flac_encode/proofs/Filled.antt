-- Lists that are filled from the front.
use Rattle.std.proofs.Common.{ℕ, zero, suc, ℤ, pos, ◌≡◌, ◌<◌, ◌≤◌, ◌+◌, ◌-◌, ◌*◌, ◌/◌, ◌%◌, Bool, take, drop, drop-cons, mod-eq_of_lt, List, [], ◌∷◌, ◌++◌, length, get_or, set, inl, inr, refl, ap, sym, subst, ◌∙◌, arith, append-nil, length-append, zero-add}
use Rattle.std.specs.List.{flat_map, range_with_len}
use Rattle.std.proofs.Math.ListN.{get_or-append}
use Rattle.std.proofs.Math.Seq.{get_or-append_right}
use Rattle.std.proofs.lemmas.Bool.{cases_lt}
use Rattle.std.proofs.lemmas.Grind.{get_or-set_at}
use Rattle.std.proofs.lemmas.List.{get_or-set_other}
use Rattle.std.proofs.lemmas.List.Concat.{flat_map-append}
use Rattle.std.proofs.lemmas.List.FromFn.{fill_by_all, length-map-range_with_len}
use Rattle.std.proofs.Math.Seq.{take-append_seam}
use Rattle.flac_definitions.specs.Bits.{bits_of, number_of, bits_in}
use Rattle.flac_definitions.specs.BitLaws.{IsBytes, length-bits_of, length-bits_in, number_of-bits_of, drop-bits_in}
use Rattle.wc_config.specs.declared.config.AudioEncoderConfig.{AudioEncoderConfig}
use Rattle.flac_definitions.specs.Modes.{IsBlock}
use Rattle.flac_definitions.specs.FrameWriting.{frame_bits}
use Rattle.flac_definitions.specs.declared.mode.BlockFormat.{BlockFormat}
use Rattle.codec_definitions.specs.FlacCode.{bytes_with, channel_apart, apart, format_of, flac_code}
use Rattle.flac_encode.specs.Steps.{IsRanged}
use Rattle.flac_encode.proofs.Steps.{length_rows}
use Rattle.std.proofs.Math.Nat.{mul-le-mul_left, div-add-mod}
use Rattle.flac_plans.specs.FitLaws.{range_more}
use Rattle.flac_definitions.specs.SubframeWriting.{HasDepth, HaveDepth}

-- one more number behind, and what it gives
pub one_more : {A : Type 0} (f : ℕ → List A) (n : ℕ) → flat_map f (range_with_len 0 (n + 1)) ≡ flat_map f (range_with_len 0 n) ++ f n
one_more {A} f n = ap (flat_map f) (range_more 0 n n (zero-add n)) ∙ (flat_map-append f (range_with_len 0 n) (n ∷ []) ∙ ap (λ (l : List A). flat_map f (range_with_len 0 n) ++ l) (append-nil (f n)))

-- samples behind samples have their depth
pub fits_both : (depth : ℕ) (xs ys : List ℤ) → HaveDepth depth xs → HaveDepth depth ys → HaveDepth depth (xs ++ ys)
fits_both depth xs ys a b = λ j l. elim (cases_lt j (length xs)) [
  | inl less ↦ subst (HasDepth depth) (sym (get_or-append xs ys (pos 0) j less)) (a j less)
  | inr more ↦ subst (HasDepth depth) (sym (get_or-append_right xs ys j (pos 0) more)) (b (j - length xs) (omega (arith, l, more, length-append xs ys)))
]

pub fits_one : (depth : ℕ) (v : ℤ) → HasDepth depth v → HaveDepth depth (v ∷ [])
fits_one depth v h zero l = h
fits_one depth v h (suc j) l = absurd (omega (arith, l))

pub fits_none : (depth : ℕ) → HaveDepth depth []
fits_none depth = λ j l. absurd (omega (arith, l))

pub fits_more : (depth : ℕ) (xs next : List ℤ) (v : ℤ) → HaveDepth depth xs → HasDepth depth v → next ≡ xs ++ v ∷ [] → HaveDepth depth next
fits_more depth xs next v a b e = subst (HaveDepth depth) (sym e) (fits_both depth xs (v ∷ []) a (fits_one depth v b))

-- what is so of each element before a place is so of the one that is set there too
pub set_each : (P : ℕ → ℤ → Type 0) (xs : List ℤ) (i : ℕ) (v : ℤ) → i < length xs → ((k : ℕ) → k < i → P k (get_or xs k (pos 0))) → P i v → (k : ℕ) → k < i + 1 → P k (get_or (set xs i v) k (pos 0))
set_each P xs i v there before own k less = elim (cases_lt k i) [
  | inl l ↦ subst (P k) (sym (get_or-set_other xs i k v (pos 0) (λ e. omega (arith, e, l)))) (before k l)
  | inr g ↦ (let same : k ≡ i = omega (arith, less, g) in subst (P k) (sym (get_or-set_at xs i k v (pos 0) same there)) (subst (λ (j : ℕ). P j v) (sym same) own))
]

-- ---- the bytes of bits

bits_in-cons : (b : ℕ) (bs : List ℕ) → bits_in (b ∷ bs) ≡ bits_of 8 b ++ bits_in bs
unfolding bits_in
bits_in-cons b bs = refl

byte_here : (bytes : List ℕ) (i : ℕ) → i < length bytes → IsBytes bytes → number_of (take 8 (drop (8 * i) (bits_in bytes))) ≡ get_or bytes i 0
byte_here bytes i less own =
    let b = get_or bytes i 0 in
    let start : 8 * i ≡ 8 * i + 0 = omega arith in
    let cut : drop (8 * i) (bits_in bytes) ≡ bits_in (drop i bytes) = ap (λ (k : ℕ). drop k (bits_in bytes)) start ∙ drop-bits_in bytes i 0 (omega (arith, less)) in
    let head : bits_in (drop i bytes) ≡ bits_of 8 b ++ bits_in (drop (suc i) bytes) = ap bits_in (drop-cons bytes i 0 less) ∙ bits_in-cons b (drop (suc i) bytes) in
    let taken : take 8 (bits_of 8 b ++ bits_in (drop (suc i) bytes)) ≡ bits_of 8 b =
    ap (λ (k : ℕ). take k (bits_of 8 b ++ bits_in (drop (suc i) bytes))) (sym (length-bits_of 8 b)) ∙ take-append_seam (bits_of 8 b) (bits_in (drop (suc i) bytes)) in
    ap (λ (l : List Bool). number_of (take 8 l)) (cut ∙ head) ∙ (ap number_of taken ∙ (number_of-bits_of 8 b ∙ mod-eq_of_lt (own i)))

pub bytes_are : (bytes : List ℕ) → IsBytes bytes → bytes ≡ bytes_with (bits_in bytes)
bytes_are bytes own =
    let n : length bytes ≡ length (bits_in bytes) / 8 = omega (arith, length-bits_in bytes) in
    fill_by_all (λ (i : ℕ). number_of (take 8 (drop (8 * i) (bits_in bytes)))) bytes (length (bits_in bytes) / 8) 0 n (λ k l. sym (byte_here bytes k (omega (arith, l, n)) own))

-- ---- a block that can be written

some_of : (n ch : ℕ) → 0 < n → ch * (n / ch) ≡ n → 0 < n / ch
some_of n ch some e = elim (cases_lt 0 (n / ch)) [
  | inl l ↦ l
  | inr g ↦ (let none : n / ch ≡ 0 = omega (arith, g) in absurd (omega (arith, some, e, ap (λ (k : ℕ). ch * k) none)))
]

few_of : (n ch : ℕ) → 0 < ch → n ≤ 65535 * ch → ch * (n / ch) ≡ n → n / ch ≤ 65535
few_of n ch some few e = elim (cases_lt 65535 (n / ch)) [
  | inl l ↦ (let up : ch * 65536 ≤ ch * (n / ch) = mul-le-mul_left ch (omega (arith, l)) in absurd (omega (arith, up, e, few, some)))
  | inr g ↦ g
]

pub length_apart : (ch : ℕ) (values : List ℤ) → length (apart ch values) ≡ ch * (length values / ch)
length_apart ch values = length_rows (channel_apart ch values) (length values / ch) 0 ch (λ k. length-map-range_with_len (λ (i : ℕ). get_or values (i * ch + k) (pos 0)) 0 (length values / ch))

pub block_stands : (c : AudioEncoderConfig) (values samples : List ℤ) → IsRanged c → 0 < length values → length values ≤ 65535 * c.channels → length values % c.channels ≡ 0 → samples ≡ apart c.channels values → HaveDepth c.depth samples
    → IsBlock (format_of c) (length values / c.channels) samples
block_stands c values samples g some few whole e fit =
    let n = length values in
    let split : c.channels * (n / c.channels) ≡ n = omega (arith, div-add-mod n c.channels, whole) in
    record {
      some = some_of n c.channels some split;
      few = few_of n c.channels g.channels few split;
      count = ap (λ (l : List ℤ). length l) e ∙ length_apart c.channels values;
      samples = fit;
    }

pub block_code : (c : AudioEncoderConfig) (number : ℕ) (values made samples : List ℤ) (f : BlockFormat) (bytes : List ℕ) → bytes ≡ bytes_with (bits_in bytes) → f ≡ format_of c → samples ≡ made → made ≡ apart c.channels values
    → bits_in bytes ≡ frame_bits f (length values / c.channels) number samples → bytes ≡ flac_code c number values
unfolding flac_code
block_code c number values made samples f bytes own ef es em e =
    own ∙ ap bytes_with (e ∙ (ap (λ (g : BlockFormat). frame_bits g (length values / c.channels) number samples) ef ∙ ap (frame_bits (format_of c) (length values / c.channels) number) (es ∙ em)))
