use Rattle.codec_queues.proofs.Counting.{removed, removed_queues}
use Rattle.codec_queues.proofs.rings.Queues.remove_all.Goals as goal

pub invariant_of-self : goal.invariant_of-self
invariant_of-self c = removed c.self.inside.epoch c.self.inside.tasks.items c.self.inside.desaturates c.self.invariant

pub returns : goal.returns
returns c = rw (← c.self.view_is, c.clear.ensures, c.clear-2.ensures) (removed_queues c.self.inside.epoch c.self.inside.messages.items c.self.inside.work.items _ _ c.self.inside.tasks.items c.self.inside.tasks.capacity c.self.invariant.queued)
