use Rattle.std.proofs.Common.{◌≡◌, ◌≤◌, ◌-◌, length, drop, map}
use Rattle.codec_model.specs.Shown.{shown_of, units_shown}
use Rattle.codec_core.specs.Trace.{outputs_behind}
use Rattle.codec_core.proofs.trace.seek.Given as goal

abbrev pub invariant-loop-entry : goal.invariant-loop-entry
invariant-loop-entry l = record {
  entry : l.entry ≤ length l.shown.items;
  unit : l.unit ≤ length (units_shown (drop l.entry (map shown_of l.shown.items)));
  same : outputs_behind l.entry l.unit (map shown_of l.shown.items) ≡ outputs_behind l.initial.entry l.initial.unit (map shown_of l.shown.items);
}

abbrev pub decreases-loop-entry : goal.decreases-loop-entry
decreases-loop-entry l = length l.shown.items - l.entry
