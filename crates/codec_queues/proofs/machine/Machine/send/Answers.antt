use Rattle.std.proofs.Common.{rules, arith, refl}
use Rattle.codec_queues.proofs.{Rising.rising_promised, Roomy.one_more, Roomy.roomy_queued}
use Rattle.codec_queues.proofs.machine.Machine.send.Goals as goal

pub invariant_of-self-2 : goal.invariant_of-self-2
invariant_of-self-2 c =
    roomy_queued c.reserve_places.new.queues c.args.work c.self.invariant refl (one_more c.push_message.new.self c.reserve_places.new.queues c.self.inside.queues c.self.inside.place c.args.work c.push_message.ensures c.reserve_places.ensures.same) c.more_coded-self-inside.ensures
    (rw (c.promise_if.ensures, c.reserve_places.ensures.pending) (rising_promised c.args.work _ _ c.self.invariant.promises)) (omega (arith, c.in_ok-room.ensures.enough, c.message_count.ensures, c.item_count.ensures, c.task_count.ensures)) c.in_ok-room.ensures.small (search rules) (search rules)
