-- How many blocks a command gives to FLAC's encoder, how long one lasts, and when it begins.
use Rattle.std.proofs.Common.{ℕ, zero, suc, ℤ, pos, negsuc, ◌≡◌, ◌<◌, ◌≤◌, ◌+◌, ◌-◌, ◌*◌, ◌/◌, ◌^◌, cond, List, [], ◌∷◌, ◌++◌, length, length-append, Some, refl, ap, subst, ◌∙◌, append-nil, arith, lit<}
use Rattle.std.specs.Prelude.{◌==◌}
use Rattle.std.specs.Int.{w64, saturate_signed}
use Rattle.std.specs.Int.Signed.{mag}
use Rattle.std.proofs.Math.Nat.{div-le_self, div-le_of_le-mul, mul-le-mul_left, mul-le-mul_right, div-lt_iff_lt-mul, lt-mul-div-succ}
use Rattle.std.proofs.lemmas.Bool.{ne_eqb, cond_both}
use Rattle.std.proofs.lemmas.List.Concat.{flat_map-append}
use Rattle.std.proofs.lemmas.List.FromFn.{length-map-range_with_len}
use Rattle.wc_base.specs.{Options.cond_is, Options.some_same, declared.media.Samples.Samples}
use Rattle.wc_config.specs.declared.config.AudioEncoderConfig.{AudioEncoderConfig}
use Rattle.codec_definitions.specs.declared.unit.Unit as media
use Rattle.codec_definitions.specs.{declared.command.Command.Command, FlacCode.block_frames, FlacCode.block_samples}
use Rattle.codec_definitions.specs.FlacEncoder.{inputs_since, value_at, frame_values, values_in, values_of, whole_blocks, unit_at, units_with, rest_of, unit_of_rest, is_taken, blocks_answer}
use Rattle.run_ranges.proofs.ByteRanges.{flat_length}

-- ---- how many blocks

block_pos : (c : AudioEncoderConfig) → 0 < block_frames c
block_pos c = elim c.block_size as (λ n. 0 < cond (n == 0) 4096 n) [ zero ↦ lit< tt | suc n ↦ rw (ne_eqb (suc n) 0 (omega arith)) (omega arith) ]

-- as many values as frames have in all channels
values_length : (c : AudioEncoderConfig) (s : Samples) → length (values_in c s) ≡ s.shape.frames * c.channels
values_length c s = flat_length (frame_values c s) c.channels (λ frame. length-map-range_with_len (value_at c s frame) 0 c.channels) 0 s.shape.frames

values_more : (c : AudioEncoderConfig) (inputs : List Samples) (s : Samples) → length (values_of c (inputs ++ s ∷ [])) ≡ length (values_of c inputs) + s.shape.frames * c.channels
values_more c inputs s =
    ap length (flat_map-append (values_in c) inputs (s ∷ []))
    ∙ omega (arith, length-append (values_of c inputs) (values_in c s ++ []), ap length (append-nil (values_in c s)), values_length c s)

-- some frames more complete as many blocks at most
whole_more : (n frames channels block : ℕ) → 0 < block → (n + frames * channels) / (block * channels) ≤ n / (block * channels) + frames
whole_more n frames zero block some = omega (arith, ap (λ (k : ℕ). k / (block * 0)) (let same : n + frames * 0 ≡ n = omega arith in same))
whole_more n frames (suc k) block some = by (block * suc k) (mul-le-mul_right (suc k) some)
  where
    by : (size : ℕ) → 1 * suc k ≤ size → (n + frames * suc k) / size ≤ n / size + frames
    by size frame =
        let positive : 0 < size = omega (arith, frame) in
        let below : n + frames * suc k < (n / size + frames + 1) * size = omega (arith, lt-mul-div-succ n positive, mul-le-mul_left frames frame) in
        omega (arith, (div-lt_iff_lt-mul positive).1 below)

completed : (c : AudioEncoderConfig) (inputs : List Samples) (s : Samples) → length (units_with c inputs s) ≤ s.shape.frames
completed c inputs s =
    let all = inputs ++ s ∷ [] in
    let count = length-map-range_with_len (unit_at c all) (whole_blocks c inputs) (whole_blocks c all - whole_blocks c inputs) in
    let more = ap (λ (n : ℕ). n / block_samples c) (values_more c inputs s) in
    omega (arith, count, more, whole_more (length (values_of c inputs)) s.shape.frames c.channels (block_frames c) (block_pos c))

-- a command gives as many blocks as its samples have frames, or one
pub blocks_few : (c : AudioEncoderConfig) (before : List Command) (x : Command) (us : List media.Unit) → ((s : Samples) → x ≡ Command.Sound s → s.shape.frames < 2 ^ 32) → blocks_answer c before x ≡ Some us → length us < 2 ^ 64
blocks_few c before (Command.Sound s) us small h =
    let given = (cond_is (is_taken c s) (Some (units_with c (inputs_since before) s)) us h).1 in
    subst (λ (vs : List media.Unit). length vs < 2 ^ 64) (some_same _ us given) (omega (arith, completed c (inputs_since before) s, small s refl))
blocks_few c before Command.Drain us small h =
    let inputs = inputs_since before in
    let last = unit_at c inputs (whole_blocks c inputs) in
    subst (λ (vs : List media.Unit). length vs < 2 ^ 64) (some_same (unit_of_rest (rest_of c inputs) last) us h) (elim (rest_of c inputs) as (λ l. length (unit_of_rest l last) < 2 ^ 64) [ [] ↦ lit< tt | x ∷ xs ↦ lit< tt ])
blocks_few c before _ us small h = absurd cc

-- ---- one block

-- a timestamp that a block's place may have
pub saturated_within : (z : ℤ) → mag (saturate_signed w64 z) < 2 ^ 63
saturated_within (pos n) = omega arith
saturated_within (negsuc n) = omega arith

-- so many values are a block's at most
pub lasts : (n channels frames rate : ℕ) → n ≤ frames * channels → frames < 2 ^ 32 → n / channels * 1000000 / rate < 2 ^ 64
lasts n channels frames rate few small = omega (arith, div-le_self (n / channels * 1000000) rate, div-le_of_le-mul channels {m = n} {n = frames} (omega (arith, few)), small)

pub block_small : (c : AudioEncoderConfig) → c.block_size < 2 ^ 32 → block_frames c < 2 ^ 32
block_small c small = cond_both (c.block_size == 0) 4096 c.block_size (λ n. n < 2 ^ 32) (λ is. lit< tt) (λ is. small)
