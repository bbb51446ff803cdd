use Rattle.std.proofs.Common.{◌≤◌}
use Rattle.flac_subframes.proofs.likely.least_of.Given as goal

abbrev pub invariant-loop-order : goal.invariant-loop-order
invariant-loop-order l = (l.best ≤ l.last) × (l.best ≤ 4)
