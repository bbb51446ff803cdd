use Rattle.std.proofs.Common.{◌≡◌, length}
use Rattle.report_reader.specs.Read.{behind_entries}
use Rattle.report_reader.proofs.build.behind_entries.Given as goal

abbrev pub invariant-loop-rest : goal.invariant-loop-rest
invariant-loop-rest l = behind_entries l.rest ≡ behind_entries l.lines

abbrev pub decreases-loop-rest : goal.decreases-loop-rest
decreases-loop-rest l = length l.rest
