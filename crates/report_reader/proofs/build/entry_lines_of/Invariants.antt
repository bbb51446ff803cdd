use Rattle.std.proofs.Common.{◌≡◌, ◌++◌, length}
use Rattle.report_reader.specs.Read.{entry_lines_in, behind_entries}
use Rattle.report_reader.proofs.build.entry_lines_of.Given as goal

abbrev pub invariant-loop-rest : goal.invariant-loop-rest
invariant-loop-rest l = record {
  entries : l.entries.items ++ entry_lines_in l.rest ≡ entry_lines_in l.lines;
  behind : behind_entries l.rest ≡ behind_entries l.lines;
}

abbrev pub decreases-loop-rest : goal.decreases-loop-rest
decreases-loop-rest l = length l.rest
