use Rattle.std.proofs.Common.{◌≡◌, ◌≤◌, ◌+◌, ◌*◌, length, map, sum_by, take}
use Rattle.flac_definitions.specs.ResidualSpelling.{folded_value}
use Rattle.flac_plans.specs.Search.{distance_within, total}
use Rattle.flac_plans.proofs.sums.size_of.Given as goal

abbrev pub invariant-loop-value : goal.invariant-loop-value
invariant-loop-value l = record {
  below : 2 * l.sum ≤ total (map folded_value (take l.value-index l.values)) + length (take l.value-index l.values);
  value : l.sum ≡ sum_by (distance_within l.most) (map folded_value (take l.value-index l.values));
  small : l.sum ≤ l.value-index * l.most;
}
