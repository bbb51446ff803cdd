use Rattle.std.proofs.Common.{◌≡◌, length, flat_map}
use Rattle.load_summary.specs.Summary.{outputs_in}
use Rattle.load_summary.specs.Tally.{with_outputs}
use Rattle.load_summary.proofs.tally.add_codec.Given as goal

abbrev pub invariant-loop-shown : goal.invariant-loop-shown
invariant-loop-shown l = with_outputs l.tally (flat_map outputs_in l.items) ≡ with_outputs l.fn.tally (flat_map outputs_in l.fn.codec.shown)

abbrev pub decreases-loop-shown : goal.decreases-loop-shown
decreases-loop-shown l = length l.items
