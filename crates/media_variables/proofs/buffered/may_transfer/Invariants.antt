use Rattle.std.proofs.Common.{◌≡◌, length}
use Rattle.array_buffers.specs.Transfers.{may_transfer}
use Rattle.media_variables.specs.Variables.{is_open_buffer, steps_in}
use Rattle.media_variables.specs.Held.{seen_in}
use Rattle.media_variables.proofs.buffered.may_transfer.Given as goal

abbrev pub invariant-loop-left : goal.invariant-loop-left
invariant-loop-left l = may_transfer (is_open_buffer (seen_in l.variables)) (steps_in l.left) ≡ may_transfer (is_open_buffer (seen_in l.variables)) (steps_in l.list)

abbrev pub decreases-loop-left : goal.decreases-loop-left
decreases-loop-left l = length l.left
