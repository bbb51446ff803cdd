use Rattle.std.proofs.Common.{length, ◌≤◌}
use Rattle.report_reader.specs.{declared.forms.Section.Section, Form.Reads, Form.next_number}
use Rattle.report_reader.proofs.reading.read_forms.Given as goal

abbrev pub invariant-loop-rest : goal.invariant-loop-rest
invariant-loop-rest l = record {
  reads : Reads l.script Section.Start l.bytes l.lines.items l.section l.rest;
  few : next_number l.section ≤ length l.lines.items;
}

abbrev pub decreases-loop-rest : goal.decreases-loop-rest
decreases-loop-rest l = length l.rest
