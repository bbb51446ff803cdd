-- What a command gives and leaves by the definition over all commands, from what is kept before it.
use Rattle.std.proofs.Common.{ℕ, zero, suc, ℤ, pos, ◌≡◌, ◌<◌, ◌≤◌, ◌+◌, ◌-◌, ◌*◌, ◌/◌, ◌%◌, ◌^◌, ◌==◌, List, [], ◌∷◌, ◌++◌, length, take, drop, map, Some, None, cond, inl, inr, refl, ap, sym, subst, ◌∙◌, append-nil, arith, lit<}
use Rattle.std.proofs.Math.Nat.{mul-le-mul_left, div-add-mod, mod-lt, mul-add-div, mul-div-mul_right, mod-add-mod}
use Rattle.std.proofs.Math.Nat.{mul-pos, mul-div_cancel, mul-le-mul_right, zero-div}
use Rattle.std.proofs.lemmas.Bool.{cases_lt, lt-ltb, le-ltb, ne_eqb}
use Rattle.std.proofs.lemmas.List.{drop-drop, drop-append-le, drop_all, take_all, length-drop, length-append, length-map}
use Rattle.std.proofs.lemmas.List.Concat.{flat_map-append}
use Rattle.std.proofs.lemmas.List.FromFn.{length-range_with_len}
use Rattle.std.proofs.lemmas.List.Sums.{fold-append}
use Rattle.std.specs.List.{flat_map, range_with_len}
use Rattle.wc_base.specs.declared.media.Samples.{Samples}
use Rattle.wc_config.specs.declared.config.AudioEncoderConfig.{AudioEncoderConfig}
use Rattle.codec_definitions.specs.declared.unit.Unit as unit
use Rattle.codec_definitions.specs.declared.command.Command.{Command}
use Rattle.codec_definitions.specs.declared.command.Command.TheVariants as command
use Rattle.codec_definitions.specs.FlacCode.{block_frames, block_samples}
use Rattle.codec_definitions.specs.FlacEncoder.{Kept, nothing_kept, block_at, block_unit, frame_values, values_in, values_of, place_in, unit_at, whole_blocks, units_with, rest_of, unit_of_rest, is_taken, inputs_since, kept_with, kept_after, blocks_answer, blocks_state}
use Rattle.flac_encode.specs.Steps.{place_after, place_left, step_unit, step_units, step_state, step_answer, step_after}

-- ---- places

abbrev frames_of : List Samples → ℕ
frames_of [] = 0
frames_of (s ∷ rest) = s.shape.frames + frames_of rest

place_front : (xs : List Samples) (s : Samples) (n : ℕ) → n < frames_of xs → place_in (xs ++ s ∷ []) n ≡ place_in xs n
place_front [] s n less = absurd (omega (arith, less))
place_front (x ∷ xs) s n less = elim (cases_lt n x.shape.frames) [
  | inl l ↦ rw (lt-ltb n x.shape.frames l) refl
  | inr g ↦ rw (le-ltb n x.shape.frames g) (place_front xs s (n - x.shape.frames) (omega (arith, less, g)))
]

place_back : (xs : List Samples) (s : Samples) (n : ℕ) → frames_of xs ≤ n → n - frames_of xs < s.shape.frames → place_in (xs ++ s ∷ []) n ≡ (s.shape.timestamp, n - frames_of xs)
place_back [] s n low high = rw (lt-ltb n s.shape.frames (omega (arith, high))) (ap (λ (k : ℕ). (s.shape.timestamp, k)) (omega arith))
place_back (x ∷ xs) s n low high =
    rw (le-ltb n x.shape.frames (omega (arith, low))) (place_back xs s (n - x.shape.frames) (omega (arith, low)) (omega (arith, low, high)) ∙ ap (λ (k : ℕ). (s.shape.timestamp, k)) (omega (arith, low)))

place_past : (xs : List Samples) (n : ℕ) → frames_of xs ≤ n → place_in xs n ≡ (pos 0, 0)
place_past [] n low = refl
place_past (x ∷ xs) n low = rw (le-ltb n x.shape.frames (omega (arith, low))) (place_past xs (n - x.shape.frames) (omega (arith, low)))

frames_more : (xs : List Samples) (s : Samples) → frames_of (xs ++ s ∷ []) ≡ frames_of xs + s.shape.frames
frames_more [] s = omega arith
frames_more (x ∷ xs) s = omega (arith, frames_more xs s)

-- ---- counts

pub length_rows : {A : Type 0} (f : ℕ → List A) (w a n : ℕ) → ((k : ℕ) → length (f k) ≡ w) → length (flat_map f (range_with_len a n)) ≡ n * w
length_rows f w a zero e = omega arith
length_rows f w a (suc n) e = length-append (f a) (flat_map f (range_with_len (a + 1) n)) ∙ omega (arith, e a, length_rows f w (a + 1) n e)

pub length_values : (c : AudioEncoderConfig) (s : Samples) → length (values_in c s) ≡ s.shape.frames * c.channels
length_values c s = length_rows (frame_values c s) c.channels 0 s.shape.frames (λ k. length-map (range_with_len 0 c.channels) _ ∙ length-range_with_len 0 c.channels)

length_all : (c : AudioEncoderConfig) (xs : List Samples) → length (values_of c xs) ≡ frames_of xs * c.channels
length_all c [] = omega arith
length_all c (x ∷ xs) = length-append (values_in c x) (values_of c xs) ∙ omega (arith, length_values c x, length_all c xs)

values_more : (c : AudioEncoderConfig) (xs : List Samples) (s : Samples) → values_of c (xs ++ s ∷ []) ≡ values_of c xs ++ values_in c s
values_more c xs s = flat_map-append (values_in c) xs (s ∷ []) ∙ ap (λ (l : List ℤ). values_of c xs ++ l) (append-nil (values_in c s))

-- ---- frames as blocks and what is left

some_frames : (n : ℕ) → 0 < cond (n == 0) 4096 n
some_frames zero = lit< tt
some_frames (suc n) = rw (ne_eqb (suc n) 0 (omega arith)) (omega arith)

pub block_pos : (c : AudioEncoderConfig) → 0 < block_frames c
block_pos c = some_frames c.block_size

-- `f` frames are `k` blocks of `b` frames and `r` more
pub record IsCut (b f k r : ℕ) : Type 0 where
  pub whole : f ≡ b * k + r
  pub short : r < b

pub cut : (b ch f : ℕ) → 0 < b → 0 < ch → IsCut b f (f * ch / (b * ch)) (f % b)
cut b ch f pb pc =
    let e : f * ch / (b * ch) ≡ f / b = mul-div-mul_right f b pc in
    rw e (record { whole = sym (div-add-mod f b); short = mod-lt f pb })

-- what is left of them, in samples
pub left_samples : (b ch f k r : ℕ) → f ≡ b * k + r → f * ch - (b * ch) * k ≡ r * ch
left_samples b ch f k r e = rw e (omega arith)

-- what is kept of inputs, in numbers: blocks, and frames left
record IsKept (c : AudioEncoderConfig) (xs : List Samples) (r : ℕ) : Type 0 where
  whole : frames_of xs ≡ block_frames c * whole_blocks c xs + r
  short : r < block_frames c
  samples : length (rest_of c xs) ≡ r * c.channels
  count : length (values_of c xs) ≡ block_samples c * whole_blocks c xs + r * c.channels

kept : (c : AudioEncoderConfig) (xs : List Samples) → 0 < c.channels → IsKept c xs (frames_of xs % block_frames c)
kept c xs pc =
    let b = block_frames c in
    let ch = c.channels in
    let f = frames_of xs in
    let counted : length (values_of c xs) ≡ f * ch = length_all c xs in
    let same : f * ch / (b * ch) ≡ whole_blocks c xs = ap (λ (k : ℕ). k / (b * ch)) (sym counted) in
    let k : IsCut b f (whole_blocks c xs) (f % b) = subst (λ (k : ℕ). IsCut b f k (f % b)) same (cut b ch f (block_pos c) pc) in
    let rest : length (rest_of c xs) ≡ (f % b) * ch = length-drop (block_samples c * whole_blocks c xs) (values_of c xs) ∙ (ap (λ (n : ℕ). n - (b * ch) * whole_blocks c xs) counted ∙ left_samples b ch f (whole_blocks c xs) (f % b) k.whole) in
    record { whole = k.whole; short = k.short; samples = rest; count = counted ∙ (ap (λ (n : ℕ). n * ch) k.whole ∙ omega arith) }

-- ---- blocks

same_unit : (c : AudioEncoderConfig) (m n : ℕ) (v w : List ℤ) (p q : ℤ × ℕ) → m ≡ n → v ≡ w → p ≡ q → block_unit c m v p ≡ block_unit c n w q
same_unit c m n v w p q e f g = ap (λ (x : ℕ). block_unit c x v p) e ∙ (ap (λ (x : List ℤ). block_unit c n x p) f ∙ ap (λ (x : ℤ × ℕ). block_unit c n w x) g)

same_rest : (n k j : ℕ) (a s : List ℤ) → n * k ≤ length a → drop (n * (k + j)) (a ++ s) ≡ drop (n * j) (drop (n * k) a ++ s)
same_rest n k j a s h =
    let e : n * (k + j) ≡ n * k + n * j = omega arith in
    ap (λ (x : ℕ). drop x (a ++ s)) e ∙ (sym (drop-drop (n * j) (n * k) (a ++ s)) ∙ ap (λ (l : List ℤ). drop (n * j) l) (drop-append-le (n * k) a s h))

no_room : (j b r : ℕ) → j * b < r → r < b → j ≡ 0
no_room zero b r l m = refl
no_room (suc j) b r l m = absurd (omega (arith, l, m))

same_place : (c : AudioEncoderConfig) (xs : List Samples) (s : Samples) (r j : ℕ) → IsKept c xs r → j * block_frames c < r + s.shape.frames → place_in (xs ++ s ∷ []) ((whole_blocks c xs + j) * block_frames c) ≡ place_after r (place_in xs (whole_blocks c xs * block_frames c)) s.shape.timestamp (j * block_frames c)
same_place c xs s r j k within =
    let b = block_frames c in
    let w = whole_blocks c xs in
    elim (cases_lt (j * b) r) [
      | inl l ↦ rw (lt-ltb (j * b) r l) (place_front xs s ((w + j) * b) (omega (arith, k.whole, l)) ∙ ap (λ (n : ℕ). place_in xs ((w + n) * b)) (no_room j b r l k.short) ∙ ap (place_in xs) (omega arith))
      | inr g ↦ rw (le-ltb (j * b) r g) (place_back xs s ((w + j) * b) (omega (arith, k.whole, g)) (omega (arith, k.whole, g, within)) ∙ ap (λ (n : ℕ). (s.shape.timestamp, n)) (omega (arith, k.whole, g)))
    ]

-- the blocks that an input makes whole
length_joined : (c : AudioEncoderConfig) (xs : List Samples) (s : Samples) (r : ℕ) → IsKept c xs r → length (rest_of c xs ++ values_in c s) ≡ (r + s.shape.frames) * c.channels
length_joined c xs s r k = length-append (rest_of c xs) (values_in c s) ∙ omega (arith, k.samples, length_values c s)

pub samples_pos : (c : AudioEncoderConfig) → 0 < c.channels → 0 < block_samples c
samples_pos c pc = mul-pos (block_pos c) pc

more_blocks : (c : AudioEncoderConfig) (xs : List Samples) (s : Samples) (r : ℕ) → 0 < c.channels → IsKept c xs r → whole_blocks c (xs ++ s ∷ []) ≡ whole_blocks c xs + length (rest_of c xs ++ values_in c s) / block_samples c
more_blocks c xs s r pc k =
    let n = block_samples c in
    let counted : length (values_of c (xs ++ s ∷ [])) ≡ n * whole_blocks c xs + length (rest_of c xs ++ values_in c s) =
    ap (λ (l : List ℤ). length l) (values_more c xs s) ∙ (length-append (values_of c xs) (values_in c s) ∙ omega (arith, k.count, k.samples, length-append (rest_of c xs) (values_in c s))) in
    ap (λ (x : ℕ). x / n) counted ∙ mul-add-div {m = n} (samples_pos c pc) (whole_blocks c xs) (length (rest_of c xs ++ values_in c s))

blocks_by_frames : (c : AudioEncoderConfig) (xs : List Samples) (s : Samples) (r : ℕ) → 0 < c.channels → IsKept c xs r → length (rest_of c xs ++ values_in c s) / block_samples c ≡ (r + s.shape.frames) / block_frames c
blocks_by_frames c xs s r pc k = ap (λ (x : ℕ). x / block_samples c) (length_joined c xs s r k) ∙ mul-div-mul_right (r + s.shape.frames) (block_frames c) pc

pub within_block : (b n j : ℕ) → 0 < b → j < n / b → j * b < n
within_block b n j pb l =
    let up : b * (j + 1) ≤ b * (n / b) = mul-le-mul_left b (omega (arith, l)) in
    omega (arith, up, div-add-mod n b, pb)

frames_kept : (c : AudioEncoderConfig) (xs : List Samples) (r : ℕ) → 0 < c.channels → IsKept c xs r → length (rest_of c xs) / c.channels ≡ r
frames_kept c xs r pc k = ap (λ (x : ℕ). x / c.channels) k.samples ∙ mul-div_cancel r pc

map_same : {X : Type 0} (f g : ℕ → X) (a b m : ℕ) → ((i p q : ℕ) → i < m → p ≡ a + i → q ≡ b + i → f p ≡ g q) → map f (range_with_len a m) ≡ map g (range_with_len b m)
map_same {X} f g a b zero h = refl
map_same {X} f g a b (suc m) h =
    let first : f a ≡ g b = h 0 a b (omega arith) (omega arith) (omega arith) in
    let others : map f (range_with_len (a + 1) m) ≡ map g (range_with_len (b + 1) m) = map_same f g (a + 1) (b + 1) m (λ i p q l e d. h (suc i) p q (omega (arith, l)) (omega (arith, e)) (omega (arith, d))) in
    ap (λ (x : X). x ∷ map f (range_with_len (a + 1) m)) first ∙ ap (λ (l : List X). g b ∷ l) others

-- ---- an input

unit_step : (c : AudioEncoderConfig) (xs : List Samples) (s : Samples) (r j : ℕ) → 0 < c.channels → IsKept c xs r → j < length (rest_of c xs ++ values_in c s) / block_samples c →
    unit_at c (xs ++ s ∷ []) (whole_blocks c xs + j) ≡ step_unit c (whole_blocks c xs % 2 ^ 31) (length (rest_of c xs) / c.channels) (place_in xs (whole_blocks c xs * block_frames c)) s.shape.timestamp (rest_of c xs ++ values_in c s) j
unit_step c xs s r j pc k less =
    let n = block_samples c in
    let w = whole_blocks c xs in
    let all = rest_of c xs ++ values_in c s in
    let room : n * w ≤ length (values_of c xs) = omega (arith, k.count) in
    let numbers : (w + j) % 2 ^ 31 ≡ (w % 2 ^ 31 + j) % 2 ^ 31 = sym (mod-add-mod w (2 ^ 31) j) in
    let values : block_at n (values_of c (xs ++ s ∷ [])) (w + j) ≡ block_at n all j =
    ap (λ (l : List ℤ). block_at n l (w + j)) (values_more c xs s) ∙ ap (λ (l : List ℤ). take n l) (same_rest n w j (values_of c xs) (values_in c s) room) in
    let by_frames : j < (r + s.shape.frames) / block_frames c = subst (λ (m : ℕ). j < m) (blocks_by_frames c xs s r pc k) less in
    let within : j * block_frames c < r + s.shape.frames = within_block (block_frames c) (r + s.shape.frames) j (block_pos c) by_frames in
    let first = place_in xs (w * block_frames c) in
    let places : place_in (xs ++ s ∷ []) ((w + j) * block_frames c) ≡ place_after (length (rest_of c xs) / c.channels) first s.shape.timestamp (j * block_frames c) =
    same_place c xs s r j k within ∙ ap (λ (m : ℕ). place_after m first s.shape.timestamp (j * block_frames c)) (sym (frames_kept c xs r pc k)) in
    same_unit c ((w + j) % 2 ^ 31) ((w % 2 ^ 31 + j) % 2 ^ 31) (block_at n (values_of c (xs ++ s ∷ [])) (w + j)) (block_at n all j) (place_in (xs ++ s ∷ []) ((w + j) * block_frames c)) (place_after (length (rest_of c xs) / c.channels) first s.shape.timestamp (j * block_frames c)) numbers values places

units_step : (c : AudioEncoderConfig) (xs : List Samples) (s : Samples) → 0 < c.channels → units_with c xs s ≡ step_units c (kept_after c xs) s
units_step c xs s pc =
    let r = frames_of xs % block_frames c in
    let k : IsKept c xs r = kept c xs pc in
    let w = whole_blocks c xs in
    let all = rest_of c xs ++ values_in c s in
    let m = length all / block_samples c in
    let f : ℕ → unit.Unit = unit_at c (xs ++ s ∷ []) in
    let g : ℕ → unit.Unit = step_unit c (w % 2 ^ 31) (length (rest_of c xs) / c.channels) (place_in xs (w * block_frames c)) s.shape.timestamp all in
    let count : whole_blocks c (xs ++ s ∷ []) - w ≡ m = ap (λ (x : ℕ). x - w) (more_blocks c xs s r pc k) ∙ omega arith in
    ap (λ (x : ℕ). map f (range_with_len w x)) count ∙ map_same f g w 0 m (λ i p q less at here.
    let same : q ≡ i = omega (arith, here) in
    ap f (at ∙ ap (λ (x : ℕ). w + x) (sym same)) ∙ unit_step c xs s r q pc k (omega (arith, less, same)))

same_state : (a b : List ℤ) (p q : ℤ × ℕ) (m n : ℕ) → a ≡ b → p ≡ q → m ≡ n → (let x : Kept = record { rest = a; origin = p.0; offset = p.1; number = m } in x) ≡ (let y : Kept = record { rest = b; origin = q.0; offset = q.1; number = n } in y)
same_state a b p q m n e f g =
    let make : List ℤ → ℤ × ℕ → ℕ → Kept = λ l p n. record { rest = l; origin = p.0; offset = p.1; number = n } in
    ap (λ (x : List ℤ). make x p m) e ∙ (ap (λ (x : ℤ × ℕ). make b x m) f ∙ ap (make b q) g)

-- where the frames left begin
place_of_left : (c : AudioEncoderConfig) (all : List Samples) (q : ℕ) (left : List ℤ) (p : ℤ × ℕ) → 0 < c.channels → IsKept c all q → length left ≡ q * c.channels → (0 < q → place_in all (whole_blocks c all * block_frames c) ≡ p) → place_in all (whole_blocks c all * block_frames c) ≡ place_left left p
place_of_left c all zero [] p pc k len some = place_past all (whole_blocks c all * block_frames c) (omega (arith, k.whole))
place_of_left c all (suc q) [] p pc k len some = absurd (omega (arith, len, pc))
place_of_left c all zero (x ∷ xs) p pc k len some = absurd (omega (arith, len))
place_of_left c all (suc q) (x ∷ xs) p pc k len some = some (omega arith)

state_step : (c : AudioEncoderConfig) (xs : List Samples) (s : Samples) → 0 < c.channels → kept_after c (xs ++ s ∷ []) ≡ step_state c (kept_after c xs) s
state_step c xs s pc =
    let b = block_frames c in
    let n = block_samples c in
    let r = frames_of xs % b in
    let k : IsKept c xs r = kept c xs pc in
    let w = whole_blocks c xs in
    let all = xs ++ s ∷ [] in
    let values = rest_of c xs ++ values_in c s in
    let m = length values / n in
    let q = frames_of all % b in
    let ka : IsKept c all q = kept c all pc in
    let more : whole_blocks c all ≡ w + m = more_blocks c xs s r pc k in
    let room : n * w ≤ length (values_of c xs) = omega (arith, k.count) in
    let rests : rest_of c all ≡ drop (n * m) values =
    ap (λ (x : ℕ). drop (n * x) (values_of c all)) more ∙ (ap (λ (l : List ℤ). drop (n * (w + m)) l) (values_more c xs s) ∙ same_rest n w m (values_of c xs) (values_in c s) room) in
    let first = place_in xs (w * b) in
    let kf = length (rest_of c xs) / c.channels in
    let begin = place_after kf first s.shape.timestamp (m * b) in
    let places : place_in all (whole_blocks c all * b) ≡ place_left (drop (n * m) values) begin =
    place_of_left c all q (drop (n * m) values) begin pc ka (ap (λ (l : List ℤ). length l) (sym rests) ∙ ka.samples) (λ some.
    let total : frames_of all ≡ frames_of xs + s.shape.frames = frames_more xs s in
    let spread : b * whole_blocks c all ≡ b * w + m * b = ap (λ (x : ℕ). b * x) more ∙ omega arith in
    let within : m * b < r + s.shape.frames = omega (arith, total, spread, ka.whole, k.whole, some) in
    ap (λ (x : ℕ). place_in all (x * b)) more ∙ (same_place c xs s r m k within ∙ ap (λ (x : ℕ). place_after x first s.shape.timestamp (m * b)) (sym (frames_kept c xs r pc k)))) in
    let numbers : whole_blocks c all % 2 ^ 31 ≡ (w % 2 ^ 31 + m) % 2 ^ 31 = ap (λ (x : ℕ). x % 2 ^ 31) more ∙ sym (mod-add-mod w (2 ^ 31) m) in
    same_state (rest_of c all) (drop (n * m) values) (place_in all (whole_blocks c all * b)) (place_left (drop (n * m) values) begin) (whole_blocks c all % 2 ^ 31) ((w % 2 ^ 31 + m) % 2 ^ 31) rests places numbers

-- ---- a drain

unit_of_same : (rest : List ℤ) (u v : unit.Unit) → u ≡ v → unit_of_rest rest u ≡ unit_of_rest rest v
unit_of_same rest u v e = ap (unit_of_rest rest) e

rest_step : (c : AudioEncoderConfig) (xs : List Samples) → 0 < c.channels → unit_at c xs (whole_blocks c xs) ≡ block_unit c (whole_blocks c xs % 2 ^ 31) (rest_of c xs) (place_in xs (whole_blocks c xs * block_frames c))
rest_step c xs pc =
    let r = frames_of xs % block_frames c in
    let k : IsKept c xs r = kept c xs pc in
    let up : r * c.channels ≤ block_frames c * c.channels = mul-le-mul_right c.channels (omega (arith, k.short)) in
    ap (λ (l : List ℤ). block_unit c (whole_blocks c xs % 2 ^ 31) l (place_in xs (whole_blocks c xs * block_frames c))) (take_all (block_samples c) (rest_of c xs) (omega (arith, k.samples, up)))

pub none_kept : (c : AudioEncoderConfig) → 0 < c.channels → kept_after c [] ≡ nothing_kept
none_kept c pc =
    let none : whole_blocks c [] ≡ 0 = zero-div (block_samples c) in
    same_state (rest_of c []) [] (place_in [] (whole_blocks c [] * block_frames c)) (pos 0, 0) (whole_blocks c [] % 2 ^ 31) 0 (drop_all (block_samples c * whole_blocks c []) [] (omega arith)) refl (ap (λ (x : ℕ). x % 2 ^ 31) none)

-- ---- commands

since_more : (before : List Command) (x : Command) → inputs_since (before ++ x ∷ []) ≡ kept_with (inputs_since before) x
since_more before x = fold-append kept_with [] before (x ∷ [])

pub answer_step : (c : AudioEncoderConfig) (before : List Command) (x : Command) → 0 < c.channels → blocks_answer c before x ≡ step_answer c (blocks_state c before) x
answer_step c before (command.Sound s) pc = ap (λ (l : List unit.Unit). cond (is_taken c s) (Some l) None) (units_step c (inputs_since before) s pc)
answer_step c before command.Drain pc = ap (λ (u : unit.Unit). Some (unit_of_rest (rest_of c (inputs_since before)) u)) (rest_step c (inputs_since before) pc)
answer_step c before (command.Chunk chunk) pc = refl
answer_step c before (command.Image picture) pc = refl

pub after_step : (c : AudioEncoderConfig) (before : List Command) (x : Command) → 0 < c.channels → blocks_state c (before ++ x ∷ []) ≡ step_after c (blocks_state c before) x
after_step c before (command.Sound s) pc = ap (kept_after c) (since_more before (command.Sound s)) ∙ state_step c (inputs_since before) s pc
after_step c before command.Drain pc = ap (kept_after c) (since_more before command.Drain) ∙ none_kept c pc
after_step c before (command.Chunk chunk) pc = ap (kept_after c) (since_more before (command.Chunk chunk))
after_step c before (command.Image picture) pc = ap (kept_after c) (since_more before (command.Image picture))
