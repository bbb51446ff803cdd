use Rattle.std.proofs.Common.{◌≡◌, arith, length, length-take, drop}
use Rattle.flac_decode.proofs.RestoreLaws.{warm_front}
use Rattle.flac_decode.proofs.predictor.read_fixed.Goals as goal

pub read_fixed_samples-requires-clause-warm : goal.read_fixed_samples-requires-clause-warm
read_fixed_samples-requires-clause-warm c =
    let e : length c.read_samples.new.samples ≡ c.args.order = omega (arith, c.read_samples.auto.samples, length-take c.args.order c.args.samples.now) in
    warm_front c.read_samples.new.samples (drop c.args.order c.args.samples.now) c.args.depth c.args.order e c.requires.depth c.in_default.ensures.small
