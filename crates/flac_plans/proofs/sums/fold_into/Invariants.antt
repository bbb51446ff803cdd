use Rattle.std.proofs.Common.{ℕ, ◌≡◌, ◌<◌, length, get_or, pos}
use Rattle.flac_definitions.specs.ResidualSpelling.{folded_value}
use Rattle.flac_plans.proofs.sums.fold_into.Given as goal

abbrev pub invariant-loop-j : goal.invariant-loop-j
invariant-loop-j l = record {
  count : length l.out ≡ length l.residual;
  values : (k : ℕ) → k < l.j → get_or l.out k 0 ≡ folded_value (get_or l.residual k (pos 0));
}
