use Rattle.std.proofs.Common.{◌≡◌, ◌≤◌, ◌+◌, ◌-◌, length, drop}
use Rattle.report_reader.specs.Fault.{feeds}
use Rattle.report_check.proofs.part.ended_lines.Given as goal

abbrev pub invariant-loop-i : goal.invariant-loop-i
invariant-loop-i l = record {
  so_far : feeds l.text ≡ l.lines + feeds (drop l.i l.text);
  few : l.lines ≤ l.i;
  within : l.i ≤ length l.text;
}

abbrev pub decreases-loop-i : goal.decreases-loop-i
decreases-loop-i l = length l.initial.text - l.i
