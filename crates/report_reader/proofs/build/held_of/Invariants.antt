use Rattle.std.proofs.Common.{◌≡◌, length}
use Rattle.report_reader.specs.Read.{held_in}
use Rattle.report_reader.proofs.build.held_of.Given as goal

abbrev pub invariant-loop-rest : goal.invariant-loop-rest
invariant-loop-rest l = held_in l.rest ≡ held_in l.lines

abbrev pub decreases-loop-rest : goal.decreases-loop-rest
decreases-loop-rest l = length l.rest
