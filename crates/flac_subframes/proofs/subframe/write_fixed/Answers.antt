use Rattle.std.proofs.Common.{ℤ, List, ◌≡◌, length, ap, arith, rules}
use Rattle.flac_definitions.specs.FixedPredictors.{residuals}
use Rattle.flac_subframes.proofs.Ranges.{residual_count}
use Rattle.flac_subframes.proofs.subframe.write_fixed.Goals as goal

pub write_residual-requires-clause-count : goal.write_residual-requires-clause-count
write_residual-requires-clause-count c =
    let is : c.as_slice.result.now ≡ residuals c.args.order c.args.samples.now = search rules in
    omega (arith, ap (λ (l : List ℤ). length l) is, residual_count c.args.order c.args.samples.now, c.requires.some)
