use Rattle.std.proofs.Common.{◌≡◌}
use Rattle.flac_plans.specs.Search.{table}
use Rattle.flac_plans.proofs.plan.table.Given as goal

abbrev pub invariant-loop-j : goal.invariant-loop-j
invariant-loop-j l = l.sums.items ≡ table l.low l.width l.size l.order l.zs l.j
