use Rattle.std.proofs.Common.{arith, ◌∙◌, ap, ◌∷◌, [], ◌++◌}
use Rattle.std.proofs.lemmas.List.Sums.{count_by-le-length}
use Rattle.codec_model.specs.Control.{is_desaturate}
use Rattle.codec_queues.specs.Queues.{QueuedTask, tasks_of}
use Rattle.codec_queues.proofs.Counting.{count_at_most, pushed, pushed_queues}
use Rattle.codec_queues.proofs.rings.Queues.push_task.Goals as goal

pub more_desaturates-self-inside-requires : goal.more_desaturates-self-inside-requires
more_desaturates-self-inside-requires c = omega (arith, c.self.invariant.counted, count_by-le-length is_desaturate (tasks_of c.self.inside.epoch c.self.inside.tasks.items), count_at_most c.self.inside.epoch c.self.inside.tasks.items, c.len-len.ensures)

pub invariant_of-self : goal.invariant_of-self
invariant_of-self c =
    pushed c.self.inside.epoch c.self.inside.tasks.items c.args.task c.put_back.new.ring.items c.self.inside.desaturates c.more_desaturates-self-inside.result c.self.invariant
    (c.put_back.ensures.items ∙ ap (λ (q : QueuedTask). c.self.inside.tasks.items ++ q ∷ []) c.new.ensures) c.more_desaturates-self-inside.ensures

pub returns : goal.returns
returns c =
    rw (← c.self.view_is) (pushed_queues c.self.inside.epoch c.self.inside.messages.items c.self.inside.work.items _ _ c.self.inside.tasks.items c.put_back.new.ring.items c.self.inside.tasks.capacity c.put_back.new.ring.capacity c.args.task (rw (← c.self.view_is) at c.requires.places)
    (c.put_back.ensures.items ∙ ap (λ (q : QueuedTask). c.self.inside.tasks.items ++ q ∷ []) c.new.ensures) c.put_back.ensures.capacity)
