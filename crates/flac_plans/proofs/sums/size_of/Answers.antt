use Rattle.std.proofs.Common.{length, rules, arith}
use Rattle.flac_plans.proofs.Sizes.{distances_more, distances_whole, size_fits, size_more, size_whole}
use Rattle.flac_plans.proofs.sums.size_of.Goals as goal

pub overflow_add-sum : goal.overflow_add-sum
overflow_add-sum c =
    let i = c.loop-value.value-index in
    omega (arith, size_fits (length c.args.values.now) c.args.most i c.loop-value.sum c.size_at-sum.result c.requires c.loop-value-test.true c.loop-value.invariant.small c.size_at-sum.ensures.most)

pub loop-value-preserved : goal.loop-value-preserved
loop-value-preserved c =
    let v = c.loop-value.invariant in
    record {
      below = size_more c.args.values.now c.loop-value.value-index _ c.loop-value.sum c.size_at-sum.result c.loop-value-test.true (search rules) v.below c.size_at-sum.ensures.below;
      value = distances_more c.args.most c.args.values.now c.loop-value.value-index _ c.loop-value.sum c.size_at-sum.result c.loop-value-test.true (search rules) v.value c.size_at-sum.ensures.value;
      small = omega (arith, v.small, c.size_at-sum.ensures.most);
    }

pub returns-clause-value : goal.returns-clause-value
returns-clause-value c = distances_whole c.args.most c.args.values.now c.loop-value.value-index c.loop-value.sum c.loop-value-test.false c.loop-value.invariant.value

pub returns-clause-below : goal.returns-clause-below
returns-clause-below c = size_whole c.args.values.now c.loop-value.value-index c.loop-value.sum c.loop-value-test.false c.loop-value.invariant.below
