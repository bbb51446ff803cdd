use Rattle.std.proofs.Common.{◌≡◌, ◌*◌}
use Rattle.flac_plans.specs.Search.{table}
use Rattle.flac_plans.proofs.plan.merged.Given as goal

abbrev pub invariant-loop-j : goal.invariant-loop-j
invariant-loop-j l = l.out.items ≡ table l.low l.width (2 * l.size) l.order l.zs l.j
