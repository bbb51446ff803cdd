-- What copies of sound and pictures, and their sizes, come to is within its types.
use Rattle.std.proofs.Common.{ℕ, suc, ◌≡◌, ◌<◌, ◌≤◌, ◌+◌, ◌-◌, ◌*◌, ◌^◌, ◌&&◌, inl, inr, not, Bool, true, cond, List, [], ◌∷◌, ◌++◌, length, drop, Option, Result, Ok, Err, refl, ap, arith, eq-eqb}
use Rattle.std.specs.Prelude.{nat_lt, nat_le, ◌==◌, is_none}
use Rattle.std.specs.List.{AllByRecursion, list_all}
use Rattle.std.proofs.Math.Nat.{mul-le-mul_left}
use Rattle.std.proofs.lemmas.Bool.{and_parts, cond_both, ltb-true, ltb-false, eqb-true, not-false}
use Rattle.std.proofs.lemmas.List.{length-replicate}
use Rattle.hex.specs.Hex.{IsBytes}
use Rattle.wc_base.specs.declared.{error.DomError.DomError, media.PictureFormat.PictureFormat, media.PictureShape.PictureShape}
use Rattle.wc_base.specs.declared.media.SoundShape.{SoundShape}
use Rattle.codec_definitions.specs.Pcm.{format_size, is_planar, place_of, frame_of, resized_at}
use Rattle.sample_conversion.specs.Layouts.{channel_of, frames_of}
use Rattle.picture_planes.specs.declared.plane.Plane.{Plane}
use Rattle.picture_planes.specs.Planes.{rows_of, planes_of, plane_size}
use Rattle.wc_chunk.specs.Copied.{copied_count, copied_to}
use Rattle.wc_audio.specs.declared.options.Plan.{Plan}
use Rattle.wc_audio.specs.Copies as sound
use Rattle.wc_video.specs.{declared.layout.Rect.Rect, declared.layout.PlaneLayout.PlaneLayout, declared.layout.PlaneCopy.PlaneCopy, Frames.Frame}
use Rattle.wc_video.specs.Layouts.{rect_in, layouts_in, is_rect_of, plane_copy, copies_from, end_of, is_fit, are_apart, are_taken, plan_in, plan_of, size_of, layout_at, layouts_of}
use Rattle.wc_video.specs.Copies as video
use Rattle.script_types.specs.declared.script.ScriptData.{ScriptData}
use Rattle.media_variables.specs.Variables.{zeros, audio_copied, frame_copied, planes_copied, chunk_copied, size_found}
use Rattle.report_lines.specs.Fits.{FitsLayout, FitsLayouts, FitsResult}
use Rattle.run_ranges.proofs.Cases.{by_test}
use Rattle.run_ranges.proofs.ByteRanges.{both_small, drop_small, zeros_small, bytes_small, flat_small, range_small, bytes_length, flat_length}

-- ---- sound

abbrev sample_in : SoundShape → List ℕ → Plan → ℕ → ℕ → List ℕ
sample_in shape bytes p channel frame = resized_at (format_size shape.format) (format_size p.format) bytes (place_of shape frame channel)

-- the bytes of a copy are as many as it says that it takes
sound_length : (shape : SoundShape) (bytes : List ℕ) (p : Plan) → length (sound.copy_of shape bytes p) ≡ sound.copy_size shape p
sound_length shape bytes p =
    by_test (λ b. length (cond b (channel_of (format_size p.format) shape bytes p.plane p.offset p.count) (frames_of (format_size p.format) shape bytes p.offset p.count)) ≡ format_size p.format * cond b 1 shape.channels * p.count) (is_planar p.format)
    (λ is. omega (arith, flat_length (sample_in shape bytes p p.plane) (format_size p.format) (λ frame. bytes_length (format_size p.format) _) p.offset p.count))
    (λ is. omega (
      arith,
      flat_length (frame_of (format_size p.format) shape bytes) (shape.channels * format_size p.format)
          (λ frame. flat_length (λ channel. sample_in shape bytes p channel frame) (format_size p.format) (λ channel. bytes_length (format_size p.format) _) 0 shape.channels) p.offset p.count,
    ))

-- each sample of a copy is spelled anew
sound_small : (shape : SoundShape) (bytes : List ℕ) (p : Plan) → IsBytes (sound.copy_of shape bytes p)
sound_small shape bytes p =
    cond_both (is_planar p.format) (channel_of (format_size p.format) shape bytes p.plane p.offset p.count) (frames_of (format_size p.format) shape bytes p.offset p.count) IsBytes
    (λ is. flat_small (sample_in shape bytes p p.plane) (λ frame. bytes_small (format_size p.format) _) p.offset p.count)
    (λ is. flat_small (frame_of (format_size p.format) shape bytes) (λ frame. flat_small (λ channel. sample_in shape bytes p channel frame) (λ channel. bytes_small (format_size p.format) _) 0 shape.channels) p.offset p.count)

pub sound_copy_fits : (s : ScriptData) (size : ℕ) (shape : SoundShape) (bytes : List ℕ) (r : Result Plan DomError) → size < 2 ^ 64 → FitsResult s (audio_copied size (sound.copy_into shape bytes size r))
sound_copy_fits s size shape bytes (Err e) few = tt
sound_copy_fits s size shape bytes (Ok p) few =
    let copy = sound.copy_of shape bytes p in
    cond_both (nat_lt size (sound.copy_size shape p)) (Err DomError.RangeErr) (Ok copy) (λ r. FitsResult s (audio_copied size r)) (λ is. tt)
    (λ is. (omega (arith, few, sound_length shape bytes p, ltb-false size (sound.copy_size shape p) is), both_small copy (drop (length copy) (zeros size)) (sound_small shape bytes p) (drop_small (length copy) (zeros size) (zeros_small size))))

pub sound_size_fits : (s : ScriptData) (shape : SoundShape) (r : Result Plan DomError) → FitsResult s (size_found (sound.size_in shape r))
sound_size_fits s shape (Err e) = tt
sound_size_fits s shape (Ok p) = cond_both (nat_lt (sound.copy_size shape p) (2 ^ 64)) (Ok (sound.copy_size shape p)) (Err DomError.RangeErr) (λ r. FitsResult s (size_found r)) (λ is. ltb-true (sound.copy_size shape p) (2 ^ 64) is) (λ is. tt)

-- ---- chunks

pub chunk_copy_fits : (s : ScriptData) (size : ℕ) (bytes : List ℕ) → size < 2 ^ 64 → IsBytes bytes → FitsResult s (chunk_copied (copied_to bytes (zeros size)) (copied_count bytes (zeros size)))
chunk_copy_fits s size bytes few small =
    by_test (λ b. FitsResult s (chunk_copied (cond b (zeros size) (bytes ++ drop (length bytes) (zeros size))) (cond b (Err DomError.TypeErr) (Ok (length bytes))))) (nat_lt (length (zeros size)) (length bytes)) (λ is. tt)
    (λ is. (omega (arith, few, length-replicate {A = ℕ} size 0, ltb-false (length (zeros size)) (length bytes) is), both_small bytes (drop (length bytes) (zeros size)) small (drop_small (length bytes) (zeros size) (zeros_small size))))

-- ---- planes

-- a plane's layout and the end of its range have 32 bits
abbrev IsPlaneWithin : PlaneCopy → Type 0
IsPlaneWithin c = FitsLayout c.layout × (end_of c < 2 ^ 32)

rows_some : (p : Plane) (height : ℕ) → 1 ≤ height → 1 ≤ rows_of p height
rows_some Plane.Whole height h = omega arith
rows_some p height h = omega arith

plane_within : (at : ℕ) (shape : PictureShape) (r : Rect) (p : Plane) (l : PlaneLayout) → 1 ≤ r.height → is_fit (plane_copy at shape r p l) ≡ true → IsPlaneWithin (plane_copy at shape r p l)
plane_within at shape r p l some fit =
    let c = plane_copy at shape r p l in
    let end : end_of c < 2 ^ 32 = ltb-true (end_of c) (2 ^ 32) (and_parts (nat_le c.row c.layout.stride) (nat_lt (end_of c) (2 ^ 32)) fit).1 in
    let rows : l.stride * 1 ≤ l.stride * rows_of p r.height = mul-le-mul_left l.stride (rows_some p r.height some) in
    ((omega (arith, end), omega (arith, end, rows)), end)

planes_within : (at : ℕ) (shape : PictureShape) (r : Rect) (ps : List Plane) (ls : List PlaneLayout) → 1 ≤ r.height → list_all is_fit (copies_from at shape r ps ls) ≡ true → AllByRecursion IsPlaneWithin (copies_from at shape r ps ls)
planes_within at shape r (p ∷ ps) (l ∷ ls) some fit =
    let rest = copies_from (at + plane_size p shape.width shape.height) shape r ps ls in
    let parts = and_parts (is_fit (plane_copy at shape r p l)) (list_all is_fit rest) fit in
    (plane_within at shape r p l some parts.0, planes_within (at + plane_size p shape.width shape.height) shape r ps ls some parts.1)
planes_within at shape r _ _ some fit = tt

planes_count : (at : ℕ) (shape : PictureShape) (r : Rect) (ps : List Plane) (ls : List PlaneLayout) → length ls ≡ length ps → length (copies_from at shape r ps ls) ≡ length ps
planes_count at shape r [] ls same = refl
planes_count at shape r (p ∷ ps) [] same = absurd (omega (arith, same))
planes_count at shape r (p ∷ ps) (l ∷ ls) same = ap suc (planes_count (at + plane_size p shape.width shape.height) shape r ps ls (omega (arith, same)))

size_small : (cs : List PlaneCopy) → AllByRecursion IsPlaneWithin cs → size_of cs < 2 ^ 32
size_small [] h = omega arith
size_small (c ∷ cs) h = omega (arith, h.0.1, size_small cs h.1)

layout_small : (cs : List PlaneCopy) (i : ℕ) → AllByRecursion IsPlaneWithin cs → FitsLayout (layout_at cs i)
layout_small [] i h = (omega arith, omega arith)
layout_small (c ∷ cs) i h = cond_both (i == 0) c.layout (layout_at cs (i - 1)) FitsLayout (λ is. h.0.0) (λ is. layout_small cs (i - 1) h.1)

-- ---- plans of copies of pictures

-- a plan that is no refusal
abbrev pub IsPlanWithin : Result (List PlaneCopy) DomError → Type 0
IsPlanWithin (Err e) = Unit {0}
IsPlanWithin (Ok cs) = FitsLayouts (layouts_of cs) × (size_of cs < 2 ^ 32)

-- the planes are three, or two and no third
layouts_small : (f : PictureFormat) (cs : List PlaneCopy) → length cs ≡ length (planes_of f) → AllByRecursion IsPlaneWithin cs → FitsLayouts (layouts_of cs)
layouts_small PictureFormat.Nv12 (a ∷ b ∷ []) count h = record { planes = inl (refl, refl); first = layout_small (a ∷ b ∷ []) 0 h; second = layout_small (a ∷ b ∷ []) 1 h; third = layout_small (a ∷ b ∷ []) 2 h }
layouts_small PictureFormat.Nv12 _ count h = absurd (omega (arith, count))
layouts_small _ cs count h = record { planes = inr count; first = layout_small cs 0 h; second = layout_small cs 1 h; third = layout_small cs 2 h }

front : (a b : Bool) → (a && b) ≡ true → a ≡ true
front a b h = (and_parts a b h).0

rect_some : (shape : PictureShape) (r : Rect) → is_rect_of shape r ≡ true → 1 ≤ r.height
rect_some shape r h = let tall : not (r.height == 0) ≡ true = (and_parts (not (r.width == 0)) (not (r.height == 0)) (front _ _ (front _ _ (front _ _ h)))).1 in grind (arith, eq-eqb)

abbrev planes_in : PictureShape → Rect → List PlaneLayout → List PlaneCopy
planes_in shape r ls = copies_from 0 shape r (planes_of shape.format) ls

taken_within : (shape : PictureShape) (r : Rect) (ls : List PlaneLayout) → is_rect_of shape r ≡ true → (length ls == length (planes_of shape.format)) ≡ true → are_taken (planes_in shape r ls) ≡ true → IsPlanWithin (Ok (planes_in shape r ls))
taken_within shape r ls rect count taken =
    let fit = front (list_all is_fit (planes_in shape r ls)) (are_apart (planes_in shape r ls)) taken in
    let all = planes_within 0 shape r (planes_of shape.format) ls (rect_some shape r rect) fit in
    let same = planes_count 0 shape r (planes_of shape.format) ls (eqb-true (length ls) (length (planes_of shape.format)) count) in
    (layouts_small shape.format (planes_in shape r ls) same all, size_small (planes_in shape r ls) all)

plan_in_within : (shape : PictureShape) (r : Rect) (ls : List PlaneLayout) → IsPlanWithin (plan_in shape r ls)
plan_in_within shape r ls =
    cond_both (not (is_rect_of shape r)) (Err DomError.TypeErr) _ IsPlanWithin (λ is. tt) (λ rect. cond_both (not (length ls == length (planes_of shape.format))) (Err DomError.TypeErr) _ IsPlanWithin (λ is. tt)
    (λ count. cond_both (not (are_taken (planes_in shape r ls))) (Err DomError.TypeErr) (Ok (planes_in shape r ls)) IsPlanWithin (λ is. tt) (λ taken. taken_within shape r ls (not-false _ rect) (not-false _ count) (not-false _ taken))))

pub plan_within : (f : Frame) (rect : Option Rect) (layout : Option (List PlaneLayout)) → IsPlanWithin (video.plan_for f rect layout)
plan_within f rect layout = cond_both (is_none f.held) (Err DomError.InvalidState) (plan_of f.shape rect layout) IsPlanWithin (λ is. tt) (λ is. plan_in_within f.shape (rect_in f.shape rect) (layouts_in f.shape (rect_in f.shape rect) layout))

-- a byte of a copy is one of the picture's, or one that stood there
byte_small : (cs : List PlaneCopy) (bytes old : List ℕ) → IsBytes bytes → IsBytes old → (j : ℕ) → video.byte_after cs bytes old j < 256
byte_small [] bytes old small zeros j = zeros j
byte_small (c ∷ cs) bytes old small zeros j = cond_both (video.is_written c j) _ _ (λ b. b < 256) (λ is. small (video.source_of c j)) (λ is. byte_small cs bytes old small zeros j)

pub frame_copy_fits : (s : ScriptData) (bytes old : List ℕ) (r : Result (List PlaneCopy) DomError) → IsBytes bytes → IsBytes old → IsPlanWithin r → FitsResult s (planes_copied bytes old r)
frame_copy_fits s bytes old (Err e) small zeros h = tt
frame_copy_fits s bytes old (Ok cs) small zeros h =
    cond_both (nat_lt (length old) (size_of cs)) (Err DomError.TypeErr) (Ok (video.copy_of cs bytes old)) (λ r. FitsResult s (frame_copied (size_of cs) (layouts_of cs) r)) (λ is. tt)
    (λ is. (omega (arith, h.1), h.0, range_small (video.byte_after cs bytes old) (byte_small cs bytes old small zeros) 0 (length old)))

pub frame_size_fits : (s : ScriptData) (r : Result (List PlaneCopy) DomError) → IsPlanWithin r → FitsResult s (size_found (video.size_in r))
frame_size_fits s (Err e) h = tt
frame_size_fits s (Ok cs) h = omega (arith, h.1)
