use Rattle.std.proofs.Common.{◌≡◌, None, length, flat_map}
use Rattle.trace_text.specs.Report.{event_lines}
use Rattle.trace_text.proofs.lines.EventLines.next.Given as goal

abbrev pub invariant-loop-event : goal.invariant-loop-event
invariant-loop-event l = record {
  none : l.self-inside.behind ≡ None;
  left : flat_map event_lines l.self-inside.events.items ≡ l.fn.self;
}

abbrev pub decreases-loop-event : goal.decreases-loop-event
decreases-loop-event l = length l.self-inside.events.items
