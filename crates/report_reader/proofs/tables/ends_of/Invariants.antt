use Rattle.std.proofs.Common.{ℕ, ◌≡◌, length}
use Rattle.std.specs.Prelude.{None, nat_lt, if◌then◌else◌}
use Rattle.std.specs.BTreeMap.{get}
use Rattle.run_model.specs.Recorded.{steps_of}
use Rattle.report_reader.specs.{Arguments.results_of, Arguments.detached_by, Tables.key_cmp, Tables.first_named}
use Rattle.report_reader.proofs.tables.ends_of.Given as goal

abbrev pub invariant-loop-caller : goal.invariant-loop-caller
invariant-loop-caller l = (k j : ℕ) → get key_cmp l.ends (k, j)
    ≡ (if nat_lt k l.caller then first_named (detached_by (steps_of l.script k) (results_of l.callers k)) (length (steps_of l.script k)) j else None)
