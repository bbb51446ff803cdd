use Rattle.std.proofs.Common.{◌≡◌, ◌+◌, length}
use Rattle.report_reader.specs.Arguments.{results_in}
use Rattle.report_reader.proofs.tables.results_in.Given as goal

abbrev pub invariant-loop-rest : goal.invariant-loop-rest
invariant-loop-rest l = l.count + results_in l.rest ≡ results_in l.callers

abbrev pub decreases-loop-rest : goal.decreases-loop-rest
decreases-loop-rest l = length l.rest
