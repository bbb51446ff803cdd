-- What the plan of a copy has.
use Rattle.std.proofs.Common.{ℕ, ◌≡◌, ◌≤◌, ◌*◌, ◌+◌, ◌-◌, Bool, true, false, cond, List, refl, ap, sym, subst, ◌∙◌, arith}
use Rattle.std.specs.Prelude.{◌&&◌, ◌==◌, not, nat_le, nat_lt, Option, Some, None, is_none, SomeIff, IfSome, Result, Ok, Err, unwrap_or}
use Rattle.std.proofs.lemmas.Bool.Decides.{nat_tests}
use Rattle.std.proofs.Math.Nat.{mul-one}
use Rattle.wc_base.specs.declared.error.DomError.TheVariants as dom
use Rattle.wc_base.specs.declared.media.SampleFormat.{SampleFormat}
use Rattle.wc_base.specs.declared.media.SampleFormat.TheVariants as format
use Rattle.wc_base.specs.declared.media.SoundShape.{SoundShape}
use Rattle.codec_definitions.specs.Pcm.{format_size, is_planar}
use Rattle.sample_conversion.specs.Layouts.{channel_of, frames_of}
use Rattle.wc_audio.specs.Sound.{Sound}
use Rattle.wc_audio.specs.Copies.{is_planar_copy, integer_format, own_format, frames_plan, format_plan, plan_in, plan_of, copy_of, IsPlanOf}
use Rattle.wc_audio.specs.declared.options.CopyFormat.{CopyFormat}
use Rattle.wc_audio.specs.declared.options.CopyFormat.TheVariants as copy
use Rattle.wc_audio.specs.declared.options.CopyOptions.{CopyOptions}
use Rattle.wc_audio.specs.declared.options.Plan.{Plan}

cond_ok : {X E : Type 0} (b : Bool) (e : E) (r : Result X E) (x : X) → cond b (Err e) r ≡ Ok x → (b ≡ false) × (r ≡ Ok x)
cond_ok true e r x h = absurd cc
cond_ok false e r x h = (refl, h)

planar_same : (w : CopyFormat) (f : SampleFormat) → integer_format w ≡ Some f → is_planar f ≡ is_planar_copy w
planar_same copy.U8 f h = let e : format.U8 ≡ f = cc in ap is_planar (sym e)
planar_same copy.S16 f h = let e : format.S16 ≡ f = cc in ap is_planar (sym e)
planar_same copy.S32 f h = let e : format.S32 ≡ f = cc in ap is_planar (sym e)
planar_same copy.U8Planar f h = let e : format.U8Planar ≡ f = cc in ap is_planar (sym e)
planar_same copy.S16Planar f h = let e : format.S16Planar ≡ f = cc in ap is_planar (sym e)
planar_same copy.S32Planar f h = let e : format.S32Planar ≡ f = cc in ap is_planar (sym e)
planar_same copy.F32 f h = absurd cc
planar_same copy.F32Planar f h = absurd cc

and_off : (a b : Bool) → (a && b) ≡ false → a ≡ true → b ≡ false
and_off true b h e = h
and_off false b h e = absurd cc

ok_same : {X E : Type 0} (x y : X) → ◌≡◌ {A = Result X E} (Ok x) (Ok y) → x ≡ y
ok_same x y h = cc

frames_fit : (shape : SoundShape) (o : CopyOptions) (w : CopyFormat) (f : Option SampleFormat) (p : Plan) → integer_format w ≡ f → frames_plan shape o f ≡ Ok p → (is_planar_copy w ≡ true → o.plane + 1 ≤ shape.channels) → IsPlanOf shape p
frames_fit shape o w None p is h plane = absurd cc
frames_fit shape o w (Some f) p is h plane =
    let rest : ℕ = shape.frames - o.offset in
    let count : ℕ = unwrap_or o.count rest in
    let here : Plan = record { format = f; plane = o.plane; offset = o.offset; count = count } in
    let first = cond_ok (nat_le shape.frames o.offset) dom.RangeErr (cond (nat_lt rest count) (Err dom.RangeErr) (Ok here)) p h in
    let second = cond_ok (nat_lt rest count) dom.RangeErr (Ok here) p first.1 in
    let begins : o.offset + 1 ≤ shape.frames = grind (arith, nat_tests, first.0) in
    let within : count ≤ rest = grind (arith, nat_tests, second.0) in
    let P : Plan → Type 0 = λ q. IsPlanOf shape q in
    subst P (ok_same here p second.1) (record { frames = omega (arith, begins, within); plane = λ planar. plane (sym (planar_same w f is) ∙ planar) })

format_fits : (shape : SoundShape) (o : CopyOptions) (w : CopyFormat) (p : Plan) → format_plan w shape o ≡ Ok p → IsPlanOf shape p
format_fits shape o w p h =
    let first = cond_ok (not (is_planar_copy w) && not (o.plane == 0)) dom.RangeErr (cond (is_planar_copy w && nat_le shape.channels o.plane) (Err dom.RangeErr) (frames_plan shape o (integer_format w))) p h in
    let second = cond_ok (is_planar_copy w && nat_le shape.channels o.plane) dom.RangeErr (frames_plan shape o (integer_format w)) p first.1 in
    frames_fit shape o w (integer_format w) p refl second.1 (λ planar. let off = and_off (is_planar_copy w) (nat_le shape.channels o.plane) second.0 planar in grind (arith, nat_tests, off))

-- a plan fits the shape of its data
plan_parts : (s : Sound) (o : CopyOptions) (p : Plan) → plan_of s o ≡ Ok p → (is_none s.held ≡ false) × (plan_in s.shape o ≡ Ok p)
plan_parts s o p h = cond_ok (is_none s.held) dom.InvalidState (plan_in s.shape o) p h

pub plan_fits : (s : Sound) (o : CopyOptions) (p : Plan) → plan_of s o ≡ Ok p → IsPlanOf s.shape p
plan_fits s o p h = format_fits s.shape o (unwrap_or o.format (own_format s.shape.format)) p (plan_parts s o p h).1

-- the bytes of a plan, in the words of its copies
pub channel_room : (b : Bool) (fs z ch n len : ℕ) → b ≡ true → z ≡ fs → len ≡ fs * cond b 1 ch * n → len ≡ z * n
channel_room true fs z ch n len planar same room = room ∙ ap (λ (k : ℕ). k * n) (mul-one fs ∙ sym same)
channel_room false fs z ch n len planar same room = absurd cc

pub frames_room : (b : Bool) (fs z ch n len : ℕ) → b ≡ false → z ≡ fs → len ≡ fs * cond b 1 ch * n → len ≡ z * ch * n
frames_room true fs z ch n len rows same room = absurd cc
frames_room false fs z ch n len rows same room = room ∙ ap (λ (k : ℕ). k * ch * n) (sym same)

pub copied_channel : (shape : SoundShape) (bytes : List ℕ) (p : Plan) (z : ℕ) → is_planar p.format ≡ true → z ≡ format_size p.format → channel_of z shape bytes p.plane p.offset p.count ≡ copy_of shape bytes p
copied_channel shape bytes p z planar same =
    let size : ℕ = format_size p.format in
    ap (λ (k : ℕ). channel_of k shape bytes p.plane p.offset p.count) same ∙ sym (ap (λ (b : Bool). cond b (channel_of size shape bytes p.plane p.offset p.count) (frames_of size shape bytes p.offset p.count)) planar)

pub copied_frames : (shape : SoundShape) (bytes : List ℕ) (p : Plan) (z : ℕ) → is_planar p.format ≡ false → z ≡ format_size p.format → frames_of z shape bytes p.offset p.count ≡ copy_of shape bytes p
copied_frames shape bytes p z rows same =
    let size : ℕ = format_size p.format in
    ap (λ (k : ℕ). frames_of k shape bytes p.offset p.count) same ∙ sym (ap (λ (b : Bool). cond b (channel_of size shape bytes p.plane p.offset p.count) (frames_of size shape bytes p.offset p.count)) rows)

-- a product that fits
pub if_product : (o : Option ℕ) (P : Type 0) (v n : ℕ) → SomeIff o P v → v ≡ n → IfSome o (λ m. m ≡ n)
if_product None P v n h e = tt
if_product (Some x) P v n h e = h.1 ∙ e

pub product_is : (w x fs z n : ℕ) → w ≡ x → fs ≡ z → w * n * fs ≡ z * x * n
product_is w x fs z n a b =
    let turned : w * n * fs ≡ fs * w * n = omega arith in
    turned ∙ (ap (λ (k : ℕ). k * w * n) b ∙ ap (λ (k : ℕ). z * k * n) a)
