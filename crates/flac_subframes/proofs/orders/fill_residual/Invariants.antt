use Rattle.std.proofs.Common.{ℕ, ◌≡◌, ◌<◌, ◌+◌, length, true}
use Rattle.flac_definitions.specs.FixedPredictors.{at, residual_at, is_in_range}
use Rattle.flac_subframes.proofs.orders.fill_residual.Given as goal

abbrev pub invariant-loop-j : goal.invariant-loop-j
invariant-loop-j l = record {
  count : length l.out + l.order ≡ length l.samples;
  values : (k : ℕ) → k < l.j → at l.out k ≡ residual_at l.order l.samples (l.order + k);
  range : (k : ℕ) → k < l.j → is_in_range (residual_at l.order l.samples (l.order + k)) ≡ true;
}
