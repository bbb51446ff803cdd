use Rattle.std.proofs.Common.{ℕ, ◌≡◌, ◌<◌, ◌≤◌, ◌+◌, ◌-ℤ◌, length}
use Rattle.flac_definitions.specs.FixedPredictors.{at}
use Rattle.flac_subframes.proofs.orders.fill_differences.Given as goal

abbrev pub invariant-loop-j : goal.invariant-loop-j
invariant-loop-j l = record {
  count : length l.values ≡ length l.fn.values;
  values : (k : ℕ) → k + 1 < l.j → at l.values k ≡ at l.fn.values (k + 1) -ℤ at l.fn.values k;
  others : (k : ℕ) → l.j ≤ k + 1 → at l.values k ≡ at l.fn.values k;
}
