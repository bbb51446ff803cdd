use Rattle.std.proofs.Common.{◌≡◌, length, flat_map}
use Rattle.load_summary.specs.Summary.{outputs_of}
use Rattle.load_summary.specs.Tally.{with_outputs, no_outputs}
use Rattle.load_summary.proofs.tally.tally_of.Given as goal

abbrev pub invariant-loop-left : goal.invariant-loop-left
invariant-loop-left l = with_outputs l.tally (flat_map outputs_of l.left) ≡ with_outputs no_outputs (flat_map outputs_of l.fn.run.codecs)

abbrev pub decreases-loop-left : goal.decreases-loop-left
decreases-loop-left l = length l.left
