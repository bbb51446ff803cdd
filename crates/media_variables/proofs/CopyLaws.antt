-- What the copy of a frame comes to, by the parts that are known of it.
use Rattle.std.proofs.Common.{ℕ, ◌≡◌, List, Option, Some, None, Result, Ok, Err, refl, ap, sym, ◌∙◌}
use Rattle.std.specs.Prelude.{option_map}
use Rattle.wc_base.specs.declared.error.DomError.{DomError}
use Rattle.wc_base.specs.declared.media.PictureShape.{PictureShape}
use Rattle.wc_pool.specs.declared.reference.MediaRef.{MediaRef}
use Rattle.wc_video.specs.declared.layout.PlaneCopy.{PlaneCopy}
use Rattle.wc_video.specs.declared.layout.Layouts.{Layouts}
use Rattle.wc_video.specs.Layouts.{size_of, layouts_of}
use Rattle.wc_video.specs.Copies.{size_in, layouts_for, copy_into}
use Rattle.report_text.specs.declared.result.StepResult.TheVariants as result
use Rattle.script_types.specs.declared.options.Options.{Options}
use Rattle.script_types.specs.declared.options.Options.TheVariants as options
use Rattle.wc_video.specs.Frames.{Frame}
use Rattle.media_variables.specs.declared.medium.Kind.TheVariants as kind
use Rattle.media_variables.specs.Held.{WholeMedium, reference_of, seen, whole_of}
use Rattle.media_variables.specs.Variables.{refused, frame_copied, planes_copied, copy_frame, copy_medium, frame_of}

pub size_refused : (bytes old : List ℕ) (plan : Result (List PlaneCopy) DomError) (e : DomError) → size_in plan ≡ Err e → refused e ≡ planes_copied bytes old plan
size_refused bytes old (Err d) e h = let same : d ≡ e = cc in cc
size_refused bytes old (Ok cs) e h = absurd cc

pub copy_refused : (bytes old : List ℕ) (plan : Result (List PlaneCopy) DomError) (e : DomError) → copy_into bytes old plan ≡ Err e → refused e ≡ planes_copied bytes old plan
copy_refused bytes old (Err d) e h = let same : d ≡ e = cc in cc
copy_refused bytes old (Ok cs) e h = ap refused refl ∙ sym (ap (frame_copied (size_of cs) (layouts_of cs)) h)

pub copy_made : (bytes old new : List ℕ) (plan : Result (List PlaneCopy) DomError) (n : ℕ) (l : Layouts) → size_in plan ≡ Ok n → layouts_for plan ≡ Ok l → copy_into bytes old plan ≡ Ok new → result.CopiedFrame n l new ≡ planes_copied bytes old plan
copy_made bytes old new (Err d) n l size layouts copy = absurd cc
copy_made bytes old new (Ok cs) n l size layouts copy =
    let count : size_of cs ≡ n = cc in
    let places : layouts_of cs ≡ l = cc in
    let made = ap (frame_copied (size_of cs) (layouts_of cs)) copy in
    (cc) ∙ sym made

frame_copy : (shape : PictureShape) (held : Option MediaRef) (o : Options) (size : ℕ) → copy_frame (record { shape = shape; held = held }) o size ≡ copy_frame (frame_of shape (option_map reference_of held)) o size
frame_copy shape None (options.Frame None) size = refl
frame_copy shape None (options.Frame (Some o)) size = refl
frame_copy shape None (options.Audio o) size = refl
frame_copy shape None options.Nothing size = refl
frame_copy shape (Some r) (options.Frame None) size = refl
frame_copy shape (Some r) (options.Frame (Some o)) size = refl
frame_copy shape (Some r) (options.Audio o) size = refl
frame_copy shape (Some r) options.Nothing size = refl

-- copies see no key of a pool
pub frame_by : (f : Frame) (m : WholeMedium) (o : Options) (size : ℕ) → whole_of (kind.Frame f) ≡ m → copy_frame f o size ≡ copy_medium (seen m) o size
frame_by f m o size e = frame_copy f.shape f.held o size ∙ ap (λ (x : WholeMedium). copy_medium (seen x) o size) e
