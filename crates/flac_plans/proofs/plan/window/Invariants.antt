use Rattle.std.proofs.Common.{ℕ, ◌<◌, ◌≤◌}
use Rattle.flac_definitions.specs.Plans.{part_of}
use Rattle.flac_plans.specs.Search.{IsWindow}
use Rattle.flac_plans.proofs.plan.window.Given as goal

abbrev pub invariant-loop-j : goal.invariant-loop-j
invariant-loop-j l = record {
  fits : (j : ℕ) → j < l.j → IsWindow l.window.low l.window.high (part_of l.size l.order l.zs j);
  low : l.window.low ≤ 14;
  high : l.window.high ≤ 14;
}
