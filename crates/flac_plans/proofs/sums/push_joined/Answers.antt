use Rattle.std.proofs.Common.{◌++◌}
use Rattle.flac_plans.proofs.Windows.{row_more}
use Rattle.flac_plans.proofs.sums.push_joined.Goals as goal

pub loop-c-preserved : goal.loop-c-preserved
loop-c-preserved c = row_more c.args.low c.loop-c.c (c.args.left.now ++ c.args.right.now) c.args.out.now.items c.loop-c.out.items c.push_number.new.out.items c.sum_at-sum.result c.loop-c.invariant c.in_ok-push_number.ensures c.sum_at-sum.ensures
