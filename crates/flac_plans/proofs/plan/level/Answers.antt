use Rattle.std.proofs.Common.{ℕ, ap, ◌+◌, rules, arith}
use Rattle.flac_definitions.specs.Plans.{best_parameter, part_of, part_bits}
use Rattle.flac_plans.proofs.Rows.{parameters_more, bits_more}
use Rattle.flac_plans.proofs.plan.level.Goals as goal

pub loop-j-preserved : goal.loop-j-preserved
loop-j-preserved c =
    let a = c.args in
    let v = c.loop-j.invariant in
    let n = c.loop-j.j in
    let best : ℕ → ℕ = λ (j : ℕ). best_parameter (part_of a.size a.order a.zs.now j) in
    let bits : ℕ → ℕ = λ (j : ℕ). part_bits (part_of a.size a.order a.zs.now j) in
    record {
      parameters = parameters_more best c.loop-j.parameters.items _ n c.best_at-best.result.0 v.parameters (search rules) c.best_at-best.ensures.best;
      bits = bits_more bits c.loop-j.bits c.best_at-best.result.1 n v.bits (ap (λ (x : ℕ). 4 + x) c.best_at-best.ensures.bits);
      bound = omega (arith, v.bound, c.best_at-best.ensures.bound);
    }
