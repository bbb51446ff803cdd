use Rattle.std.proofs.Common.{◌≡◌, ◌++◌, length}
use Rattle.report_reader.specs.Read.{pool_in, behind_pool}
use Rattle.report_reader.proofs.build.pool_of.Given as goal

abbrev pub invariant-loop-rest : goal.invariant-loop-rest
invariant-loop-rest l = record {
  entries : l.entries.items ++ pool_in l.rest ≡ pool_in l.lines;
  behind : behind_pool l.rest ≡ behind_pool l.lines;
}

abbrev pub decreases-loop-rest : goal.decreases-loop-rest
decreases-loop-rest l = length l.rest
