use Rattle.std.proofs.Common.{◌≡◌, ◌-◌, ◌-ℤ◌, arith, rules}
use Rattle.flac_definitions.specs.FixedPredictors.{residual_at}
use Rattle.flac_subframes.proofs.Residuals.{step}
use Rattle.flac_subframes.proofs.leasts.second_at.Goals as goal

pub returns-clause-value : goal.returns-clause-value
returns-clause-value c =
    let xs = c.args.samples.now in
    let i = c.args.i in
    let next : residual_at 1 xs i -ℤ residual_at 1 xs (i - 1) ≡ residual_at 2 xs i = step 1 xs i (omega arith) in
    search (rules, next)
