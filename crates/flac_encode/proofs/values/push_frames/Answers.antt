use Rattle.std.proofs.Common.{ap, sym, ◌∙◌, ◌++◌, List, ℕ, ℤ, append_assoc}
use Rattle.std.specs.List.{range_with_len, flat_map}
use Rattle.codec_definitions.specs.FlacEncoder.{frame_values}
use Rattle.flac_encode.proofs.Filled.{one_more}
use Rattle.flac_encode.proofs.values.push_frames.Goals as goal

pub loop-frame-preserved : goal.loop-frame-preserved
loop-frame-preserved c =
    let f : ℕ → List ℤ = frame_values c.args.config.now (record { shape = c.args.shape.now; bytes = c.args.bytes.now }) in
    let first = c.args.out.now.items in
    let n = c.loop-frame.frame in
    record {
      values = c.in_ok-push_frame.ensures.values ∙ (ap (λ (l : List ℤ). l ++ f n) c.loop-frame.invariant.values ∙ (append_assoc first (flat_map f (range_with_len 0 n)) (f n) ∙ ap (λ (l : List ℤ). first ++ l) (sym (one_more f n))));
      fit = c.in_ok-push_frame.ensures.fit;
    }
