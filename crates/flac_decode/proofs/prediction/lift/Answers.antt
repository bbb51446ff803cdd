use Rattle.std.proofs.Common.{◌-◌, ◌^◌, ◌≤◌, arith}
use Rattle.std.proofs.lemmas.Grind.{common_steps}
use Rattle.std.specs.Prelude.{unsigned_abs}
use Rattle.std.proofs.Math.Nat.{pow-le-pow_right}
use Rattle.flac_decode.proofs.prediction.lift.Goals as goal

pub returns-clause-narrow : goal.returns-clause-narrow
returns-clause-narrow c = grind (arith, common_steps)

pub returns-clause-small : goal.returns-clause-small
returns-clause-small c h =
    let d = c.args.depth in
    let p : 2 ^ (d - 1) ≤ 2 ^ 32 = pow-le-pow_right {n = 2} (omega arith) (let q : d - 1 ≤ 32 = omega arith in q) in
    let n : unsigned_abs c.args.sample ≤ 2 ^ (d - 1) = returns-clause-narrow c h in omega (arith, n, p)
