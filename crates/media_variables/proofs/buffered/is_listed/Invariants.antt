use Rattle.std.proofs.Common.{◌≡◌, length}
use Rattle.media_variables.specs.Variables.{is_listed, steps_in}
use Rattle.media_variables.proofs.buffered.is_listed.Given as goal

abbrev pub invariant-loop-left : goal.invariant-loop-left
invariant-loop-left l = is_listed l.step (steps_in l.left) ≡ is_listed l.step (steps_in l.list)

abbrev pub decreases-loop-left : goal.decreases-loop-left
decreases-loop-left l = length l.left
