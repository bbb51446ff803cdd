use Rattle.std.proofs.Common.{arith}
use Rattle.flac_plans.proofs.Windows.{prefix_small}
use Rattle.flac_plans.proofs.sums.small_quotients.Goals as goal

pub overflow_add-sum : goal.overflow_add-sum
overflow_add-sum c = omega (arith, c.loop-z.invariant, prefix_small c.args.low c.args.k c.loop-z.z-index c.args.zs.now c.requires.low c.requires.small c.loop-z-test.true)
