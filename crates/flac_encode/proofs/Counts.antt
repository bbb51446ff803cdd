-- Blocks and frames in counts of samples.
use Rattle.std.proofs.Common.{ℕ, ℤ, ◌≡◌, ◌<◌, ◌≤◌, ◌+◌, ◌-◌, ◌*◌, ◌/◌, ◌%◌, ◌++◌, ◌∷◌, [], List, length, drop, map, inl, inr, ap, sym, subst, ◌∙◌, append_assoc, zero-add, arith}
use Rattle.std.proofs.Math.Nat.{mul-le-mul_left, mul-le-mul_right, div-add-mod, mul-div-mul_right, mul-mod_left, mul-lt-mul_of_pos_right}
use Rattle.std.proofs.lemmas.Bool.{cases_lt}
use Rattle.std.proofs.lemmas.List.{length-drop, length-append}
use Rattle.std.proofs.lemmas.List.FromFn.{map-range_with_len_more}
use Rattle.std.specs.List.{range_with_len}
use Rattle.wc_config.specs.declared.config.AudioEncoderConfig.{AudioEncoderConfig}
use Rattle.codec_definitions.specs.FlacCode.{block_frames, block_samples}
use Rattle.codec_definitions.specs.FlacEncoder.{values_in}
use Rattle.flac_encode.specs.Steps.{IsRanged}
use Rattle.flac_encode.proofs.Steps.{block_pos, within_block, left_samples, IsCut, cut, length_values}
use Rattle.wc_base.specs.declared.media.Samples.{Samples}

-- a block among whole ones begins at a frame that is there
pub block_frame : (c : AudioEncoderConfig) (total count j : ℕ) → IsRanged c → count ≡ total * c.channels → j < count / block_samples c → j * block_frames c < total
block_frame c total count j g e l =
    let by_frames : count / block_samples c ≡ total / block_frames c = ap (λ (x : ℕ). x / block_samples c) e ∙ mul-div-mul_right total (block_frames c) g.channels in
    within_block (block_frames c) total j (block_pos c) (subst (λ (m : ℕ). j < m) by_frames l)

pub block_end : (n count j : ℕ) → j < count / n → n * j + n ≤ count
block_end n count j l =
    let up : n * (j + 1) ≤ n * (count / n) = mul-le-mul_left n (omega (arith, l)) in
    omega (arith, up, div-add-mod count n)

-- frames left over are there
pub left_frame : (c : AudioEncoderConfig) (total count blocks : ℕ) → count ≡ total * c.channels → block_samples c * blocks < count → blocks * block_frames c < total
left_frame c total count blocks e l = elim (cases_lt (blocks * block_frames c) total) [
  | inl less ↦ less
  | inr more ↦ (let up : total * c.channels ≤ (blocks * block_frames c) * c.channels = mul-le-mul_right c.channels more in absurd (omega (arith, up, e, l)))
]

pub total_below : (total count ch : ℕ) → 0 < ch → count ≡ total * ch → total ≤ count
total_below total count ch p e =
    let up : total * 1 ≤ total * ch = mul-le-mul_left total (omega (arith, p)) in
    omega (arith, up, e)

-- what whole blocks leave: whole frames, fewer than a block
pub left_ready : (c : AudioEncoderConfig) (l left : List ℤ) (total : ℕ) → IsRanged c → length l ≡ total * c.channels → left ≡ drop (block_samples c * (length l / block_samples c)) l → (length left % c.channels ≡ 0) × (length left < block_samples c)
left_ready c l left total g e is =
    let b = block_frames c in
    let ch = c.channels in
    let k : IsCut b total (length l / block_samples c) (total % b) = subst (λ (x : ℕ). IsCut b total (x / (b * ch)) (total % b)) (sym e) (cut b ch total (block_pos c) g.channels) in
    let len : length left ≡ (total % b) * ch = ap (λ (x : List ℤ). length x) is ∙ (length-drop (block_samples c * (length l / block_samples c)) l ∙ (ap (λ (x : ℕ). x - block_samples c * (length l / block_samples c)) e ∙ left_samples b ch total (length l / block_samples c) (total % b) k.whole)) in
    let short : (total % b) * ch < b * ch = mul-lt-mul_of_pos_right k.short g.channels in
    (ap (λ (x : ℕ). x % ch) len ∙ mul-mod_left (total % b) ch, omega (arith, len, short))

pub more_units : {X : Type 0} (f : ℕ → X) (first now next : List X) (j : ℕ) (u : X) → now ≡ first ++ map f (range_with_len 0 j) → next ≡ now ++ u ∷ [] → u ≡ f j → next ≡ first ++ map f (range_with_len 0 (j + 1))
more_units {X} f first now next j u so_far added is =
    added ∙ (ap (λ (l : List X). l ++ u ∷ []) so_far ∙ (append_assoc first (map f (range_with_len 0 j)) (u ∷ []) ∙ ap (λ (l : List X). first ++ l) (ap (λ (x : X). map f (range_with_len 0 j) ++ x ∷ []) is ∙ sym (map-range_with_len_more f 0 j j (zero-add j)))))

-- whole frames that were kept, and those of an input
pub joined_count : (c : AudioEncoderConfig) (s : Samples) (rest new : List ℤ) → 0 < c.channels → length rest % c.channels ≡ 0 → new ≡ rest ++ values_in c s → length new ≡ (length rest / c.channels + s.shape.frames) * c.channels
joined_count c s rest new p whole e =
    let q = length rest / c.channels in
    let split : c.channels * q + length rest % c.channels ≡ length rest = div-add-mod (length rest) c.channels in
    let counted : length new ≡ length rest + length (values_in c s) = ap (λ (l : List ℤ). length l) e ∙ length-append rest (values_in c s) in
    omega (arith, split, whole, counted, length_values c s)
