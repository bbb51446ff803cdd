use Rattle.std.proofs.Common.{ℤ, List, length, ap, arith}
use Rattle.flac_subframes.proofs.Ranges.{residual_count}
use Rattle.flac_subframes.proofs.choice.fixed_choice.Goals as goal

pub best_parameters-requires-clause-count : goal.best_parameters-requires-clause-count
best_parameters-requires-clause-count c =
    omega (arith, ap (λ (l : List ℤ). length l) c.requires.residual, residual_count c.args.order c.args.samples.now, c.requires.some)
