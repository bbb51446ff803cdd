use Rattle.std.proofs.Common.{◌≡◌, ◌<◌, ◌/◌, ◌^◌, ◌∙◌, ℕ, ℤ, List, Some, None, Result, Ok, Err, length, take, length-take, refl, sym, ap, subst, arith}
use Rattle.wc_config.specs.declared.stream_info.StreamInfo.{StreamInfo}
use Rattle.codec_definitions.specs.Flac.{bytes_of_frame}
use Rattle.flac_definitions.specs.Bits.{Place, start_of}
use Rattle.flac_definitions.specs.Frame.{frame_at}
use Rattle.flac_definitions.specs.FrameSpelling.{FramesAreSpelled}
use Rattle.flac_definitions.specs.declared.header.FrameHeader.{FrameHeader}
use Rattle.flac_decode.specs.FrameEnd.{most}
use Rattle.flac_decode.specs.Reading.{FillsFrame, TellsShort, DecodesFront}
use Rattle.flac_decode.specs.Shortness.{short_frame}
use Rattle.flac_decode.specs.declared.end.FrontFrame.{FrontFrame}
use Rattle.flac_decode.specs.declared.fault.ReadFault.{ReadFault}
use Rattle.flac_decode.specs.declared.fault.ReadFault.TheVariants as end
use Rattle.flac_decode.proofs.FrameEndLaws.{front_read, front_none}
use Rattle.flac_decode.proofs.end.decode_front.Goals as goal

no_front : (laws : FramesAreSpelled) (e : ReadFault) (info : StreamInfo) (bytes out : List ℕ) (p q : Place) (samples : List ℤ) → p ≡ start_of (take most bytes)
    → FillsFrame (frame_at info p) (let r : Result FrameHeader ReadFault = Err e in r) q samples → TellsShort (let r : Result FrameHeader ReadFault = Err e in r) (short_frame info p)
    → DecodesFront info bytes (let r : Result FrontFrame ReadFault = Err e in r) out
no_front laws end.Refused info bytes out p q samples s f t =
    (front_none laws info bytes (subst (λ (x : Place). frame_at info x ≡ None) s f), subst (λ (x : Place). TellsShort (let r : Result FrameHeader ReadFault = Err end.Refused in r) (short_frame info x)) s t)
no_front laws end.Short info bytes out p q samples s f t =
    (front_none laws info bytes (subst (λ (x : Place). frame_at info x ≡ None) s f), subst (λ (x : Place). TellsShort (let r : Result FrameHeader ReadFault = Err end.Short in r) (short_frame info x)) s t)
no_front laws end.NoMemory info bytes out p q samples s f t = tt

a_front : (laws : FramesAreSpelled) (info : StreamInfo) (bytes out : List ℕ) (p q : Place) (at : ℕ) (h : FrameHeader) (samples : List ℤ) → p ≡ start_of (take most bytes) → at ≡ q.at
    → frame_at info p ≡ Some ((h, samples), q) → out ≡ bytes_of_frame h samples → DecodesFront info bytes (let r : Result FrontFrame ReadFault = Ok (record { size = at / 8; block = h.block }) in r) out
a_front laws info bytes out p q at h samples s a e o =
    let r = front_read laws info bytes (h, samples) q (subst (λ (x : Place). frame_at info x ≡ Some ((h, samples), q)) s e) in
    subst (λ (k : ℕ). DecodesFront info bytes (let r : Result FrontFrame ReadFault = Ok (record { size = k / 8; block = h.block }) in r) out) (sym a) (r.0, ((h, samples), r.1, refl, o))

few : (bytes front : List ℕ) → front ≡ take most bytes → length front < 2 ^ 61
few bytes front e = omega (arith, length-take most bytes, ap length e)

pub new-r-requires : goal.new-r-requires
new-r-requires c = few c.args.bytes.now c.front.result.now c.front.ensures

pub returns-in-Err-clause-decoded : goal.returns-in-Err-clause-decoded
returns-in-Err-clause-decoded c =
    no_front c.frames_are_spelled.ensures c.in-Err.e c.args.info.now c.args.bytes.now _ _ c.read_frame.new.r _ (c.new-r.ensures ∙ ap (λ (xs : List ℕ). start_of xs) c.front.ensures) c.in-Err.ensures.read c.in-Err.ensures.short

pub returns-in-Ok-write_frame-clause-decoded : goal.returns-in-Ok-write_frame-clause-decoded
returns-in-Ok-write_frame-clause-decoded c =
    a_front c.frames_are_spelled.ensures c.args.info.now c.args.bytes.now _ _ c.read_frame.new.r c.at.result _ _ (c.new-r.ensures ∙ ap (λ (xs : List ℕ). start_of xs) c.front.ensures) c.at.ensures c.in-Ok.ensures.read (c.in-Ok-write_frame.ensures.bytes ∙ ap (λ (xs : List ℤ). bytes_of_frame c.in-Ok.h xs) c.as_slice.ensures.value)
