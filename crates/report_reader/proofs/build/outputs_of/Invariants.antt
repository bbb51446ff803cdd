use Rattle.std.proofs.Common.{◌≡◌, ◌++◌, length}
use Rattle.report_reader.specs.Read.{outputs_in}
use Rattle.report_reader.proofs.build.outputs_of.Given as goal

abbrev pub invariant-loop-rest : goal.invariant-loop-rest
invariant-loop-rest l = l.units.items ++ outputs_in l.kind l.rest ≡ outputs_in l.kind l.lines

abbrev pub decreases-loop-rest : goal.decreases-loop-rest
decreases-loop-rest l = length l.rest
