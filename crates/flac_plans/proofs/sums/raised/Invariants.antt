use Rattle.std.proofs.Common.{ℕ, ◌<◌, ◌≤◌, ◌-◌, ◌*◌, ◌^◌}
use Rattle.flac_plans.proofs.sums.raised.Given as goal

abbrev pub invariant-loop-high : goal.invariant-loop-high
invariant-loop-high l = record {
  above : l.from ≤ l.high;
  most : l.high ≤ 14;
  least : (k : ℕ) → l.from ≤ k → k < l.high → l.count * 2 ^ k < l.sum;
}

abbrev pub decreases-loop-high : goal.decreases-loop-high
decreases-loop-high l = 14 - l.high
