use Rattle.std.proofs.Common.{ℕ, suc, ◌≡◌, ◌<◌, ◌≤◌, ◌+◌, ◌*◌, ◌/◌, ◌^◌}
use Rattle.flac_plans.specs.Search.{bound_at, least_value}
use Rattle.flac_plans.proofs.sums.bound_of.Given as goal

abbrev pub invariant-loop-k : goal.invariant-loop-k
invariant-loop-k l = record {
  below : (i : ℕ) → i < l.k → l.bound ≤ l.count * i + l.twice / 2 ^ i;
  value : (n : ℕ) → l.k ≡ suc n → l.bound ≡ least_value (bound_at l.count l.twice) n;
  small : l.bound ≤ 2 ^ 48 + 2 ^ 16;
}
