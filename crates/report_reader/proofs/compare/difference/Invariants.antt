use Rattle.std.proofs.Common.{◌≡◌, ◌≤◌, ◌+◌, ◌-◌, length, drop}
use Rattle.report_reader.specs.Fault.{difference_from}
use Rattle.report_reader.proofs.compare.difference.Given as goal

abbrev pub invariant-loop-i : goal.invariant-loop-i
invariant-loop-i l = record {
  so_far : difference_from 1 l.a l.b ≡ difference_from l.line (drop l.i l.a) (drop l.i l.b);
  few : l.line ≤ l.i + 1;
  within_a : l.i ≤ length l.a;
  within_b : l.i ≤ length l.b;
}

abbrev pub decreases-loop-i : goal.decreases-loop-i
decreases-loop-i l = length l.initial.a - l.i
