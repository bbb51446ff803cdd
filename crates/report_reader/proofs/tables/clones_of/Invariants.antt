use Rattle.std.proofs.Common.{ℕ, ◌≡◌, length}
use Rattle.std.specs.BTreeMap.{get}
use Rattle.std.specs.Option.{option_or}
use Rattle.report_reader.specs.{Arguments.pair_for, Tables.key_cmp}
use Rattle.report_reader.proofs.tables.clones_of.Given as goal

abbrev pub invariant-loop-rest : goal.invariant-loop-rest
invariant-loop-rest l = (k n : ℕ) → option_or (get key_cmp l.clones (k, n)) (pair_for k n l.rest) ≡ pair_for k n l.pool

abbrev pub decreases-loop-rest : goal.decreases-loop-rest
decreases-loop-rest l = length l.rest
