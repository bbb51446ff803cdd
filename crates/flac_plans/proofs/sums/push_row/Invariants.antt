use Rattle.std.proofs.Common.{◌≡◌, ◌++◌}
use Rattle.flac_plans.specs.Search.{row}
use Rattle.flac_plans.proofs.sums.push_row.Given as goal

abbrev pub invariant-loop-c : goal.invariant-loop-c
invariant-loop-c l = l.out.items ≡ l.fn.out.items ++ row l.low l.c l.zs
