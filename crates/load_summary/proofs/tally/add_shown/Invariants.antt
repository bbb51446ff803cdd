use Rattle.std.proofs.Common.{◌≡◌, length, flat_map}
use Rattle.load_summary.specs.Summary.{output_in}
use Rattle.load_summary.specs.Tally.{with_outputs}
use Rattle.load_summary.proofs.tally.add_shown.Given as goal

abbrev pub invariant-loop-left : goal.invariant-loop-left
invariant-loop-left l = with_outputs l.tally (flat_map output_in l.left) ≡ with_outputs l.fn.tally (flat_map output_in l.fn.shown.events)

abbrev pub decreases-loop-left : goal.decreases-loop-left
decreases-loop-left l = length l.left
