use Rattle.std.proofs.Common.{◌≡◌, ℕ, List, Option, Result, Ok, Err, length, take, length-take, ap, sym, subst, ◌∙◌, arith, IfOk}
use Rattle.wc_base.specs.declared.error.NoMemory.{NoMemory}
use Rattle.wc_config.specs.declared.stream_info.StreamInfo.{StreamInfo}
use Rattle.flac_definitions.specs.Bits.{start_of}
use Rattle.flac_definitions.specs.Frame.{frame_at}
use Rattle.flac_definitions.specs.FrameSpelling.{FramesAreSpelled}
use Rattle.flac_decode.specs.FrameEnd.{most, IsFront, front_of}
use Rattle.flac_decode.specs.declared.end.FrontFrame.{FrontFrame}
use Rattle.flac_decode.proofs.FrameEndLaws.{front_is}
use Rattle.flac_decode.proofs.end.front_frame.Goals as goal

found : (laws : FramesAreSpelled) (info : StreamInfo) (bytes front : List ℕ) (r : Result (Option FrontFrame) NoMemory) → front ≡ take most bytes → IfOk r (λ o. o ≡ front_of (frame_at info (start_of front))) → IfOk r (IsFront info bytes)
found laws info bytes front (Ok o) e h = subst (λ (x : Option FrontFrame). IsFront info bytes x) (sym (h ∙ ap (λ (xs : List ℕ). front_of (frame_at info (start_of xs))) e)) (front_is laws info bytes)
found laws info bytes front (Err n) e h = tt

pub front_in-requires : goal.front_in-requires
front_in-requires c = omega (arith, length-take most c.args.bytes.now, ap length c.front.ensures)

pub returns : goal.returns
returns c = found c.frames_are_spelled.ensures c.args.info.now c.args.bytes.now c.front.result.now c.front_in.result c.front.ensures c.front_in.ensures
