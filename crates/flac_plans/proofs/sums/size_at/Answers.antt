use Rattle.std.proofs.Common.{◌≡◌, rules, arith}
use Rattle.std.specs.Prelude.{unsigned_abs}
use Rattle.flac_plans.proofs.Sizes.{twice_is, twice_size}
use Rattle.flac_plans.proofs.sums.size_at.Goals as goal

pub returns-clause-value : goal.returns-clause-value
returns-clause-value c =
    let is : c.unsigned_abs.result ≡ unsigned_abs c.args.value = search rules in
    omega (arith, twice_is c.args.value, is, c.min.ensures)

pub returns-clause-below : goal.returns-clause-below
returns-clause-below c =
    let is : c.unsigned_abs.result ≡ unsigned_abs c.args.value = search rules in
    omega (arith, twice_size c.args.value, is, c.min.ensures)
