use Rattle.std.proofs.Common.{ℤ, List, length, ap, arith}
use Rattle.flac_subframes.proofs.Ranges.{residual_count}
use Rattle.flac_subframes.proofs.choice.least_length.Goals as goal

pub least_bits-requires-clause-count : goal.least_bits-requires-clause-count
least_bits-requires-clause-count c =
    omega (arith, ap (λ (l : List ℤ). length l) c.requires.residual, residual_count c.args.order c.args.samples.now, c.requires.some)
