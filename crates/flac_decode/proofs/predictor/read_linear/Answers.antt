use Rattle.std.proofs.Common.{◌≡◌, ℤ, arith, length, length-take, drop}
use Rattle.std.proofs.lemmas.List.{length-replicate}
use Rattle.flac_decode.proofs.RestoreLaws.{warm_front}
use Rattle.flac_decode.proofs.predictor.read_linear.Goals as goal

pub read_predicted_samples-requires-clause-warm : goal.read_predicted_samples-requires-clause-warm
read_predicted_samples-requires-clause-warm c =
    let e : length c.read_samples.new.samples ≡ length c.read_coefficients.new.coefficients = omega (arith, c.read_samples.auto.samples, c.read_coefficients.auto.coefficients, length-take {A = ℤ}, length-replicate {A = ℤ}) in
    warm_front c.read_samples.new.samples (drop c.args.order c.args.samples.now) c.args.depth (length c.read_coefficients.new.coefficients) e c.requires.depth c.in_default.ensures.small
