use Rattle.std.proofs.Common.{ℕ, ◌≡◌, ◌≤◌, ◌<◌, ◌+◌, ◌-◌, ◌*◌, ◌/◌, ◌^◌, length}
use Rattle.flac_definitions.specs.Plans.{plan_bits, part_of, IsPlan}
use Rattle.flac_plans.specs.Search.{table, IsFirstLeast, IsWindow}
use Rattle.flac_plans.proofs.plan.searched.Given as goal

abbrev pub invariant-loop-p : goal.invariant-loop-p
invariant-loop-p l = record {
  within : l.p ≤ l.finest;
  size : l.size ≡ l.block / 2 ^ l.p;
  parts : l.parts ≡ 2 ^ l.p;
  count : l.parts * l.size ≡ length l.zs + l.order;
  order : l.order < l.size;
  windows : (j : ℕ) → j < l.parts → IsWindow l.window.low l.window.high (part_of l.size l.order l.zs j);
  sums : l.sums.items ≡ table l.window.low (l.window.high - l.window.low + 1) l.size l.order l.zs l.parts;
  best : IsFirstLeast (plan_bits l.block l.order l.zs) l.p l.finest l.best.partition;
  plan : IsPlan l.block l.order l.zs l.best.partition l.best;
  small : l.best.bits < 2 ^ 63;
}

abbrev pub decreases-loop-p : goal.decreases-loop-p
decreases-loop-p l = l.p
