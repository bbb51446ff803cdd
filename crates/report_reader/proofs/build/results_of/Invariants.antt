use Rattle.std.proofs.Common.{◌≡◌, ◌++◌, length}
use Rattle.report_reader.specs.Read.{results_in, behind_results}
use Rattle.report_reader.proofs.build.results_of.Given as goal

abbrev pub invariant-loop-rest : goal.invariant-loop-rest
invariant-loop-rest l = record {
  results : l.results.items ++ results_in l.rest ≡ results_in l.lines;
  behind : behind_results l.rest ≡ behind_results l.lines;
}

abbrev pub decreases-loop-rest : goal.decreases-loop-rest
decreases-loop-rest l = length l.rest
