use Rattle.std.proofs.Common.{ℕ, ◌<◌, ◌≤◌, ◌-◌, ◌*◌, ◌^◌}
use Rattle.flac_plans.proofs.sums.lowered.Given as goal

abbrev pub invariant-loop-low : goal.invariant-loop-low
invariant-loop-low l = record {
  below : l.low ≤ l.from;
  greatest : (k : ℕ) → l.low < k → k ≤ l.from → l.sum < 3 * l.count * 2 ^ (k - 1);
}

abbrev pub decreases-loop-low : goal.decreases-loop-low
decreases-loop-low l = l.low
