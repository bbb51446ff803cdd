use Rattle.std.proofs.Common.{rules, refl}
use Rattle.codec_queues.proofs.{Room.cleared_left, Rising.none_rise, Roomy.roomy_cleared}
use Rattle.codec_queues.proofs.machine.Machine.clear.Goals as goal

pub invariant_of-self : goal.invariant_of-self
invariant_of-self c = roomy_cleared c.remove_all.new.self c.self.invariant refl c.remove_all.ensures c.schedule_dequeue.ensures.queues (rw (← c.self.view_is) at c.requires) (search (rules, none_rise))

pub returns-clause-left : goal.returns-clause-left
returns-clause-left c =
    let q = c.self.inside.queues in
    let less = cleared_left c.self.inside.size c.self.inside.scheduled q.messages q.work c.self.inside.running q.tasks c.self.invariant.sizes in
    rw (← c.self.view_is, c.schedule_dequeue.ensures.queues, c.remove_all.ensures) less
