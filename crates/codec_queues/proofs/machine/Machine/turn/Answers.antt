use Rattle.std.proofs.Common.{arith, refl, ap, length}
use Rattle.codec_queues.proofs.{Rising.rising_filter, Room.tasks_fit, Roomy.roomy_turned, Roomy.popped_weighs, Roomy.unblocked_weighs}
use Rattle.codec_queues.proofs.machine.Machine.turn.Goals as goal

pub push_task-requires-clause-places : goal.push_task-requires-clause-places
push_task-requires-clause-places c = omega (arith, c.self.invariant.for_tasks, c.pop_task.ensures.task_places, tasks_fit c.self.inside.queues.tasks, ap length c.in_ok-task.ensures.some)

pub invariant_of-self-in-Unblock-4 : goal.invariant_of-self-in-Unblock-4
invariant_of-self-in-Unblock-4 c =
    rw c.push_task.ensures (roomy_turned c.self.invariant refl
    (record { epoch = c.pop_task.ensures.epoch; messages = c.pop_task.ensures.messages; work = c.pop_task.ensures.work; work_places = c.pop_task.ensures.work_places; task_places = c.pop_task.ensures.task_places })
    (unblocked_weighs _ _ _ c.in_ok-task.ensures.some c.in-Unblock.is) c.self.invariant.promises (omega (arith, c.self.invariant.outputs)))

pub invariant_of-self-in-Process : goal.invariant_of-self-in-Process
invariant_of-self-in-Process c =
    roomy_turned c.self.invariant refl
    (record { epoch = c.pop_task.ensures.epoch; messages = c.pop_task.ensures.messages; work = c.pop_task.ensures.work; work_places = c.pop_task.ensures.work_places; task_places = c.pop_task.ensures.task_places })
    (popped_weighs _ _ _ c.in_ok-task.ensures.some) c.self.invariant.promises (omega (arith, c.self.invariant.outputs))

pub invariant_of-self-in-Desaturate : goal.invariant_of-self-in-Desaturate
invariant_of-self-in-Desaturate c =
    roomy_turned c.self.invariant refl
    (record { epoch = c.pop_task.ensures.epoch; messages = c.pop_task.ensures.messages; work = c.pop_task.ensures.work; work_places = c.pop_task.ensures.work_places; task_places = c.pop_task.ensures.task_places })
    (popped_weighs _ _ _ c.in_ok-task.ensures.some) c.self.invariant.promises (omega (arith, c.self.invariant.outputs))

pub invariant_of-self-in-Output : goal.invariant_of-self-in-Output
invariant_of-self-in-Output c =
    roomy_turned c.self.invariant refl
    (record { epoch = c.pop_task.ensures.epoch; messages = c.pop_task.ensures.messages; work = c.pop_task.ensures.work; work_places = c.pop_task.ensures.work_places; task_places = c.pop_task.ensures.task_places })
    (popped_weighs _ _ _ c.in_ok-task.ensures.some) c.self.invariant.promises (omega (arith, c.self.invariant.outputs))

pub invariant_of-self-in-Flushed : goal.invariant_of-self-in-Flushed
invariant_of-self-in-Flushed c =
    roomy_turned c.self.invariant refl
    (record { epoch = c.pop_task.ensures.epoch; messages = c.pop_task.ensures.messages; work = c.pop_task.ensures.work; work_places = c.pop_task.ensures.work_places; task_places = c.pop_task.ensures.task_places })
    (popped_weighs _ _ _ c.in_ok-task.ensures.some) (rw c.remove_promise.ensures.items (rising_filter c.in-Flushed.promise _ _ c.self.invariant.promises)) (omega (arith, c.self.invariant.outputs))

pub invariant_of-self-in-Dequeue-4 : goal.invariant_of-self-in-Dequeue-4
invariant_of-self-in-Dequeue-4 c =
    roomy_turned c.self.invariant refl
    (record { epoch = c.pop_task.ensures.epoch; messages = c.pop_task.ensures.messages; work = c.pop_task.ensures.work; work_places = c.pop_task.ensures.work_places; task_places = c.pop_task.ensures.task_places })
    (popped_weighs _ _ _ c.in_ok-task.ensures.some) c.self.invariant.promises (omega (arith, c.self.invariant.outputs))

pub invariant_of-self-in-Close : goal.invariant_of-self-in-Close
invariant_of-self-in-Close c =
    roomy_turned c.self.invariant refl
    (record { epoch = c.pop_task.ensures.epoch; messages = c.pop_task.ensures.messages; work = c.pop_task.ensures.work; work_places = c.pop_task.ensures.work_places; task_places = c.pop_task.ensures.task_places })
    (popped_weighs _ _ _ c.in_ok-task.ensures.some) c.self.invariant.promises (omega (arith, c.self.invariant.outputs))
