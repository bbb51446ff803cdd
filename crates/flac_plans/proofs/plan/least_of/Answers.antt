use Rattle.std.proofs.Common.{length, map, arith}
use Rattle.flac_definitions.specs.ResidualSpelling.{folded_value}
use Rattle.flac_plans.proofs.Least.{leasts_more}
use Rattle.flac_plans.proofs.Sizes.{fewer_fit, part_bounds_more}
use Rattle.flac_plans.proofs.plan.least_of.Goals as goal

pub bound_for-sum-requires-clause-small : goal.bound_for-sum-requires-clause-small
bound_for-sum-requires-clause-small c = fewer_fit (length c.part_of.result.now) c.args.size c.most_of-most.result c.part_of.ensures.count c.most_of-most.ensures.small

pub loop-j-preserved : goal.loop-j-preserved
loop-j-preserved c =
    let a = c.args in
    let v = c.loop-j.invariant in
    record {
      least = leasts_more a.size a.order (map folded_value a.residual.now) (map folded_value c.part_of.result.now) c.loop-j.j c.loop-j.sum c.bound_for-sum.result v.least c.bound_for-sum.ensures.below c.part_of.ensures.value;
      value = part_bounds_more a.size a.order c.most_of-most.result (map folded_value a.residual.now) (map folded_value c.part_of.result.now) c.loop-j.j c.loop-j.sum c.bound_for-sum.result v.value c.bound_for-sum.ensures.value c.most_of-most.ensures.value c.part_of.ensures.value;
      small = omega (arith, v.small, c.bound_for-sum.ensures.small);
    }
