use Rattle.std.proofs.Common.{◌≡◌, ◌≤◌, ◌*◌, ◌+◌, ◌^◌, map}
use Rattle.flac_definitions.specs.ResidualSpelling.{folded_value}
use Rattle.flac_plans.specs.Search.{leasts, part_bounds}
use Rattle.flac_plans.proofs.plan.least_of.Given as goal

abbrev pub invariant-loop-j : goal.invariant-loop-j
invariant-loop-j l = record {
  least : l.sum ≤ leasts l.size l.order (map folded_value l.residual) l.j;
  value : l.sum ≡ part_bounds l.size l.order (map folded_value l.residual) l.j;
  small : l.sum ≤ l.j * (2 ^ 48 + 2 ^ 16);
}
