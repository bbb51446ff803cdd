use Rattle.std.proofs.Common.{◌≡◌, ◌++◌, length}
use Rattle.report_check.specs.Ends.{ends_from}
use Rattle.report_check.proofs.ends.push_ends.Given as goal

abbrev pub invariant-loop-entry : goal.invariant-loop-entry
invariant-loop-entry l = l.ends.items ++ ends_from l.codec l.place l.left ≡ l.fn.ends.items ++ ends_from l.codec 0 l.entries

abbrev pub decreases-loop-entry : goal.decreases-loop-entry
decreases-loop-entry l = length l.left
