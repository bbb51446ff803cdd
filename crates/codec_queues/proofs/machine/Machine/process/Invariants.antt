use Rattle.std.proofs.Common.{◌≡◌, ◌≤◌, length}
use Rattle.codec_model.specs.Control.{process, left}
use Rattle.codec_queues.proofs.machine.Machine.process.Given as goal

abbrev pub invariant-loop-self : goal.invariant-loop-self
invariant-loop-self l = (process l.self ≡ process l.fn.self) × (left l.self ≤ left l.fn.self)

abbrev pub decreases-loop-self : goal.decreases-loop-self
decreases-loop-self l = length l.self.messages
