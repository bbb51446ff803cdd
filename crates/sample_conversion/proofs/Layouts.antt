-- Samples of data, copied in another size and layout.
use Rattle.std.proofs.Common.{ℕ, zero, suc, ◌≡◌, ◌≤◌, ◌<◌, ◌*◌, ◌+◌, ◌-◌, ◌==◌, not, Bool, true, false, cond, List, [], ◌++◌, length, take, drop, refl, ap, sym, subst, ◌∙◌, arith, append-nil}
use Rattle.std.specs.List.{flat_map, range_with_len}
use Rattle.std.proofs.lemmas.Bool.{eqb-true, and_parts, not-true}
use Rattle.std.proofs.lemmas.Slice.{take-put_mid}
use Rattle.std.proofs.lemmas.List.{nil_from_length, length-drop, length-take-le}
use Rattle.std.proofs.Math.Nat.{mul-le-mul_left, mul-le-mul_right, mul-one, zero-mul}
use borrow.Rule.Slice.PartMut.{put_mid}
use Rattle.wc_base.specs.declared.media.SoundShape.{SoundShape}
use Rattle.codec_definitions.specs.Pcm.{format_size, is_planar, is_whole, place_of, resized_at, interleaved}
use Rattle.sample_conversion.specs.Sizes.{AreBytes, is_format_size, is_same, size_of}
use Rattle.sample_conversion.specs.Layouts.{channel_of, frames_of, resized_sample, strided_samples, plane_frames, frame_step_of}
use mathlib.Core.Path.{fun_ext}
use Rattle.sample_conversion.specs.declared.size.SampleSize.{SampleSize}
use Rattle.sample_conversion.proofs.Sizes.{same_size, format_sized}
use Rattle.std.proofs.lemmas.Bool.Decides.{nat_tests}
use Rattle.sample_conversion.proofs.Samples.{one_more, same_front, same_whole, from_place, one_by_one, framed}

pub size_some : (n : ℕ) → is_format_size n ≡ true → 1 ≤ n
size_some n h = grind (arith, nat_tests, h)

pub minus : (a n : ℕ) → a + n - a ≡ n
minus a n = omega arith

pub part_len : (xs : List ℕ) (a n : ℕ) → a + n ≤ length xs → length (take (a + n - a) (drop a xs)) ≡ n
part_len xs a n within = ap (λ (k : ℕ). length (take k (drop a xs))) (minus a n) ∙ length-take-le n (drop a xs) (let d = length-drop a xs in omega (arith, d, within))

pub part_at : (d i n long : ℕ) → i < n → long ≡ d * n → d * i + d ≤ long
part_at d i n long below e = omega (arith, mul-le-mul_left d (let next : i + 1 ≤ n = omega (arith, below) in next), e)

-- one piece more of what a loop has written
pub one_piece : (f : ℕ → List ℕ) (to piece : List ℕ) (d i n : ℕ) → take (d * i) to ≡ flat_map f (range_with_len 0 i) → piece ≡ f i → i < n → length to ≡ d * n → length piece ≡ length (take (d * i + d - d * i) (drop (d * i) to)) → take (d * (i + 1)) (put_mid (d * i) (d * i + d - d * i) to piece) ≡ flat_map f (range_with_len 0 (i + 1))
one_piece f to piece d i n before is below room long =
    let within : d * i + d ≤ length to = part_at d i n (length to) below room in
    rw (take-put_mid (d * i) (d * i + d - d * i) to piece (d * (i + 1)) (omega (arith, part_len to (d * i) d within)) (omega arith), before, is, one_more f i) refl

-- the sample that is read
pub piece_is : (from part new : List ℕ) (s d e n : ℕ) → part ≡ take s (drop (s * n) from) → length part ≡ s → e ≡ d → new ≡ resized_sample (length part) e part → new ≡ resized_at s d from n
piece_is from part new s d e n is long same here = rw (here, long, same, is) refl

-- the two samples that are read, one after another
pub pair_is : (from one other new : List ℕ) (s d a b step : ℕ) → one ≡ take s (drop (s * a) from) → length one ≡ s → other ≡ take s (drop (s * b) from) → b ≡ a + step → new ≡ resized_sample (length one) d one ++ resized_sample (length one) d other → new ≡ strided_samples s d from a step 2
pair_is from one other new s d a b step is long next step_on here =
    let first : a + 0 * step ≡ a = omega arith in
    let second : a + 1 * step ≡ b = omega arith in
    rw (here, long, is, next, first, second, append-nil) refl

-- a place is below the bytes that are read there
pub place_small : (s x n : ℕ) → 1 ≤ s → s * x + s ≤ n → x ≤ n
place_small s x n some h = omega (arith, mul-le-mul_left x some, h)

flat_none : (a n : ℕ) → flat_map {X = ℕ} {A = ℕ} (λ i. []) (range_with_len a n) ≡ []
flat_none a zero = refl
flat_none a (suc n) = flat_none (a + 1) n

pub no_channels : (s d first step frames channels : ℕ) (bytes to : List ℕ) → channels ≡ 0 → length to ≡ d * channels * frames → to ≡ plane_frames s d bytes first step frames channels
no_channels s d first step frames channels bytes to none room =
    let short : length to ≡ 0 = rw none at room ∙ omega arith in
    rw none (nil_from_length to short ∙ sym (flat_none 0 frames))

-- samples that stand one after another and keep their size
pub straight : (s first count : ℕ) (bytes : List ℕ) → is_format_size s ≡ true → AreBytes bytes → s * first + s * count ≤ length bytes → take (s * first + s * count - s * first) (drop (s * first) bytes) ≡ strided_samples s s bytes first 1 count
straight s first count bytes h small room =
    rw (minus (s * first) (s * count)) (sym (one_by_one (resized_at s s bytes) first count ∙ same_front s bytes (same_size s h) small first count (omega arith)))

pub straight_room : (s first m count n : ℕ) → count ≡ m + 1 → s * (first + m * 1) + s ≤ n → s * first + s * count ≤ n
straight_room s first m count n e h = rw e (omega arith)

-- how many bytes data has
pub whole_length : (shape : SoundShape) (bytes : List ℕ) → is_whole shape bytes ≡ true → length bytes ≡ shape.frames * shape.channels * format_size shape.format
whole_length shape bytes whole = eqb-true (length bytes) (shape.frames * shape.channels * format_size shape.format) whole

pub format_some : (shape : SoundShape) (n : ℕ) → n ≡ format_size shape.format → is_format_size n ≡ true → 1 ≤ format_size shape.format
format_some shape n value size = size_some (format_size shape.format) (subst (λ (k : ℕ). is_format_size k ≡ true) value size)

-- there are no more samples than bytes
pub samples_few : (shape : SoundShape) (bytes : List ℕ) (n size : ℕ) → is_whole shape bytes ≡ true → size ≡ format_size shape.format → is_format_size size ≡ true → n ≤ shape.frames → n * shape.channels ≤ length bytes
samples_few shape bytes n size whole value sized within =
    let all : ℕ = shape.frames * shape.channels in
    omega (arith, mul-le-mul_right shape.channels within, mul-le-mul_left all (format_some shape size value sized), mul-one all, whole_length shape bytes whole)

spot : (b : Bool) (frames channels frame ch : ℕ) → frame + 1 ≤ frames → ch + 1 ≤ channels → cond b (ch * frames + frame) (frame * channels + ch) + 1 ≤ frames * channels
spot true frames channels frame ch f c = omega (arith, mul-le-mul_left frames c, f)
spot false frames channels frame ch f c = omega (arith, mul-le-mul_left channels f, c)

-- a sample that is copied is there
pub place_there : (shape : SoundShape) (bytes : List ℕ) (frame ch : ℕ) → is_whole shape bytes ≡ true → frame + 1 ≤ shape.frames → ch + 1 ≤ shape.channels → format_size shape.format * place_of shape frame ch + format_size shape.format ≤ length bytes
place_there shape bytes frame ch whole f c =
    let s : ℕ = format_size shape.format in
    let at = spot (is_planar shape.format) shape.frames shape.channels frame ch f c in
    omega (arith, mul-le-mul_left s at, whole_length shape bytes whole)

plane_at : (b : Bool) (frames channels o i ch : ℕ) → cond b (ch * frames + (o + i)) ((o + i) * channels + ch) ≡ cond b (ch * frames + o) (o * channels + ch) + i * cond b 1 channels
plane_at true frames channels o i ch = omega arith
plane_at false frames channels o i ch = omega arith

-- one channel
pub channel_copied : (shape : SoundShape) (bytes : List ℕ) (d first count ch : ℕ) → strided_samples (format_size shape.format) d bytes (place_of shape first ch) (frame_step_of shape) count ≡ channel_of d shape bytes ch first count
channel_copied shape bytes d first count ch =
    let f : ℕ → List ℕ = resized_at (format_size shape.format) d bytes in
    ap (λ (p : ℕ → ℕ). flat_map (λ i. f (p i)) (range_with_len 0 count)) (fun_ext (λ i. sym (plane_at (is_planar shape.format) shape.frames shape.channels first i ch))) ∙ from_place (λ frame. f (place_of shape frame ch)) first count

pub channel_there : (shape : SoundShape) (bytes : List ℕ) (first i ch : ℕ) → is_whole shape bytes ≡ true → first + i + 1 ≤ shape.frames → ch + 1 ≤ shape.channels → format_size shape.format * (place_of shape first ch + i * frame_step_of shape) + format_size shape.format ≤ length bytes
channel_there shape bytes first i ch whole f c = rw (← plane_at (is_planar shape.format) shape.frames shape.channels first i ch) (place_there shape bytes (first + i) ch whole f c)

abbrev laid : (ℕ → List ℕ) → SoundShape → ℕ → ℕ → Bool → List ℕ
laid f shape first count planar =
    flat_map (λ frame. flat_map (λ ch. f (cond planar (ch * shape.frames + frame) (frame * shape.channels + ch))) (range_with_len 0 shape.channels)) (range_with_len first count)

-- all channels of planes
pub planes_copied : (shape : SoundShape) (bytes : List ℕ) (d first count : ℕ) → is_planar shape.format ≡ true → plane_frames (format_size shape.format) d bytes first shape.frames count shape.channels ≡ frames_of d shape bytes first count
planes_copied shape bytes d first count planar =
    let f : ℕ → List ℕ = resized_at (format_size shape.format) d bytes in
    let same : (λ (k i : ℕ). first + k + i * shape.frames) ≡ (λ k i. i * shape.frames + (first + k)) = fun_ext (λ k. fun_ext (λ i. omega arith)) in
    ap (λ (p : ℕ → ℕ → ℕ). flat_map (λ k. flat_map (λ i. f (p k i)) (range_with_len 0 shape.channels)) (range_with_len 0 count)) same
    ∙ from_place (λ frame. flat_map (λ ch. f (ch * shape.frames + frame)) (range_with_len 0 shape.channels)) first count ∙ ap (laid f shape first count) (sym planar)

pub planes_there : (shape : SoundShape) (bytes : List ℕ) (first k i : ℕ) → is_planar shape.format ≡ true → is_whole shape bytes ≡ true → first + k + 1 ≤ shape.frames → i + 1 ≤ shape.channels → format_size shape.format * (first + k + i * shape.frames) + format_size shape.format ≤ length bytes
planes_there shape bytes first k i planar whole f c = omega (arith, rw planar at (place_there shape bytes (first + k) i whole f c))

-- all channels of interleaved data
rows_framed : (shape : SoundShape) (bytes : List ℕ) (d first count : ℕ) → is_planar shape.format ≡ false → flat_map (resized_at (format_size shape.format) d bytes) (range_with_len (first * shape.channels) (count * shape.channels)) ≡ frames_of d shape bytes first count
rows_framed shape bytes d first count rows =
    sym (framed (resized_at (format_size shape.format) d bytes) shape.channels first count) ∙ ap (laid (resized_at (format_size shape.format) d bytes) shape first count) (sym rows)

pub rows_copied : (shape : SoundShape) (bytes : List ℕ) (d first count : ℕ) → is_planar shape.format ≡ false → strided_samples (format_size shape.format) d bytes (first * shape.channels) 1 (count * shape.channels) ≡ frames_of d shape bytes first count
rows_copied shape bytes d first count rows = one_by_one (resized_at (format_size shape.format) d bytes) (first * shape.channels) (count * shape.channels) ∙ rows_framed shape bytes d first count rows

pub rows_there : (shape : SoundShape) (bytes : List ℕ) (first count i : ℕ) → is_whole shape bytes ≡ true → first + count ≤ shape.frames → i < count * shape.channels → format_size shape.format * (first * shape.channels + i * 1) + format_size shape.format ≤ length bytes
rows_there shape bytes first count i whole within below =
    let at : first * shape.channels + i * 1 + 1 ≤ shape.frames * shape.channels = omega (arith, mul-le-mul_right shape.channels within) in
    omega (arith, mul-le-mul_left (format_size shape.format) at, whole_length shape bytes whole)

-- data that is interleaved in its own size keeps its bytes
pub copied : (k : SampleSize) (shape : SoundShape) (bytes : List ℕ) → AreBytes bytes → is_same k shape.format ≡ true → is_whole shape bytes ≡ true → bytes ≡ interleaved (size_of k) shape bytes
copied k shape bytes small same whole =
    let parts = and_parts (not (is_planar shape.format)) (format_size shape.format == size_of k) same in
    let s = format_size shape.format in
    let sizes : s ≡ size_of k = eqb-true s (size_of k) parts.1 in
    let all = rw zero-mul at (rows_framed shape bytes s 0 shape.frames (not-true (is_planar shape.format) parts.0)) in
    rw (← sizes) (sym (same_whole s bytes (same_size s (format_sized shape.format)) small (shape.frames * shape.channels) (omega (arith, whole_length shape bytes whole))) ∙ all)
