use Rattle.std.proofs.Common.{length}
use Rattle.codec_queues.proofs.Counting.{IsPassed}
use Rattle.codec_queues.proofs.rings.take_counting.Given as goal

abbrev pub invariant-loop-queued : goal.invariant-loop-queued
invariant-loop-queued l = IsPassed l.epoch l.fn.tasks.items l.fn.tasks.capacity l.tasks.items l.tasks.capacity

abbrev pub decreases-loop-queued : goal.decreases-loop-queued
decreases-loop-queued l = length l.tasks.items
