-- The samples of an input that stand in their order are those of its frames.
use Rattle.std.proofs.Common.{ℕ, zero, suc, ℤ, ◌≡◌, ◌+◌, ◌*◌, Bool, true, false, cond, List, [], ◌∷◌, ◌++◌, length, map, refl, ap, sym, subst, ◌∙◌, arith, append-nil, zero-add}
use Rattle.std.specs.List.{flat_map, range_with_len}
use Rattle.std.proofs.lemmas.Bool.{eqb-true}
use Rattle.std.proofs.lemmas.List.FromFn.{map-range_with_len_more}
use Rattle.wc_base.specs.declared.media.Samples.{Samples}
use Rattle.wc_base.specs.declared.media.SoundShape.{SoundShape}
use Rattle.wc_config.specs.declared.config.AudioEncoderConfig.{AudioEncoderConfig}
use Rattle.codec_definitions.specs.Pcm.{format_size, is_planar, is_whole, place_of}
use Rattle.codec_definitions.specs.FlacEncoder.{values_in}
use Rattle.flac_encode.specs.Runs.{run_value}
use Rattle.flac_encode.proofs.Counts.{more_units}
use Rattle.flac_encode.proofs.Filled.{one_more}

pub run_count : (shape : SoundShape) (bytes : List ℕ) (size : ℕ) → is_whole shape bytes ≡ true → size ≡ format_size shape.format → shape.frames * shape.channels * size ≡ length bytes
run_count shape bytes size whole is =
    ap (λ (k : ℕ). shape.frames * shape.channels * k) is ∙ sym (eqb-true (length bytes) (shape.frames * shape.channels * format_size shape.format) whole)

split : (g : ℕ → ℤ) (a n : ℕ) → map g (range_with_len 0 (a + n)) ≡ map g (range_with_len 0 a) ++ map (λ c. g (a + c)) (range_with_len 0 n)
split g a zero = (let none : a + zero ≡ a = omega arith in ap (λ (k : ℕ). map g (range_with_len 0 k)) none ∙ sym (append-nil (map g (range_with_len 0 a))))
split g a (suc n) =
    let f : ℕ → ℤ = λ (c : ℕ). g (a + c) in
    let next : a + suc n ≡ a + n + 1 = omega arith in
    let count : n + 1 ≡ suc n = omega arith in
    let added : map g (range_with_len 0 (a + suc n)) ≡ map g (range_with_len 0 (a + n)) ++ g (a + n) ∷ [] =
    ap (λ (k : ℕ). map g (range_with_len 0 k)) next ∙ map-range_with_len_more g 0 (a + n) (a + n) (zero-add (a + n)) in
    more_units f (map g (range_with_len 0 a)) (map g (range_with_len 0 (a + n))) (map g (range_with_len 0 (a + suc n))) n (g (a + n)) (split g a n) added refl
    ∙ ap (λ (k : ℕ). map g (range_with_len 0 a) ++ map f (range_with_len 0 k)) count

flat_rows : (g : ℕ → ℤ) (n m : ℕ) → flat_map (λ frame. map (λ ch. g (frame * n + ch)) (range_with_len 0 n)) (range_with_len 0 m) ≡ map g (range_with_len 0 (m * n))
flat_rows g n zero = (let none : 0 ≡ zero * n = omega arith in ap (λ (k : ℕ). map g (range_with_len 0 k)) none)
flat_rows g n (suc m) =
    let h : ℕ → List ℤ = λ (frame : ℕ). map (λ ch. g (frame * n + ch)) (range_with_len 0 n) in
    let next : suc m ≡ m + 1 = omega arith in
    let count : m * n + n ≡ suc m * n = omega arith in
    ap (λ (k : ℕ). flat_map h (range_with_len 0 k)) next
    ∙ (one_more h m ∙ (ap (λ (l : List ℤ). l ++ h m) (flat_rows g n m) ∙ (sym (split g (m * n) n) ∙ ap (λ (k : ℕ). map g (range_with_len 0 k)) count)))

rows_in : (b : Bool) (g : ℕ → ℤ) (frames channels : ℕ) → b ≡ false → flat_map (λ frame. map (λ ch. g (cond b (ch * frames + frame) (frame * channels + ch))) (range_with_len 0 channels)) (range_with_len 0 frames) ≡ map g (range_with_len 0 (frames * channels))
rows_in b g frames channels rows =
    ap (λ (c : Bool). flat_map (λ frame. map (λ ch. g (cond c (ch * frames + frame) (frame * channels + ch))) (range_with_len 0 channels)) (range_with_len 0 frames)) rows ∙ flat_rows g channels frames

pub values_in_turn : (c : AudioEncoderConfig) (s : Samples) (size : ℕ) → is_planar s.shape.format ≡ false → c.channels ≡ s.shape.channels → size ≡ format_size s.shape.format → map (run_value size c.depth s.bytes) (range_with_len 0 (s.shape.frames * s.shape.channels)) ≡ values_in c s
values_in_turn c s size rows same is =
    let count = s.shape.frames * s.shape.channels in
    let g : ℕ → ℤ = run_value (format_size s.shape.format) c.depth s.bytes in
    ap (λ (k : ℕ). map (run_value k c.depth s.bytes) (range_with_len 0 count)) is
    ∙ sym (subst (λ (n : ℕ). flat_map (λ frame. map (λ ch. g (place_of s.shape frame ch)) (range_with_len 0 n)) (range_with_len 0 s.shape.frames) ≡ map g (range_with_len 0 count)) (sym same) (rows_in (is_planar s.shape.format) g s.shape.frames s.shape.channels rows))
