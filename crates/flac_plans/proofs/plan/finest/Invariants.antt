use Rattle.std.proofs.Common.{◌≡◌, ◌≤◌}
use Rattle.flac_definitions.specs.Plans.{finest}
use Rattle.flac_plans.proofs.plan.finest.Given as goal

abbrev pub invariant-loop-p : goal.invariant-loop-p
invariant-loop-p l = (l.p ≤ 15) × (finest l.block l.order l.p ≡ finest l.block l.order l.most)

abbrev pub decreases-loop-p : goal.decreases-loop-p
decreases-loop-p l = l.p
