use Rattle.std.proofs.Common.{◌≤◌, length, flat_map}
use Rattle.report_text.specs.Text.{line_text}
use Rattle.trace_text.proofs.Steps.{IsSoFar}
use Rattle.trace_text.proofs.report.write_lines.Given as goal

abbrev pub invariant-loop-text : goal.invariant-loop-text
invariant-loop-text g l = record {
  so_far : IsSoFar (g.S.Sink.told l.initial.sink) (flat_map (line_text l.script) l.initial.lines) (flat_map (line_text l.script) l.lines) (g.S.Sink.told l.sink);
  later : g.S.Sink.faults l.initial.sink ≤ g.S.Sink.faults l.sink;
}

abbrev pub decreases-loop-text : goal.decreases-loop-text
decreases-loop-text g l = length l.lines
