use Rattle.std.proofs.Common.{◌≡◌, ◌+◌, length}
use Rattle.std.specs.List.{sum_by}
use Rattle.codec_model.specs.Control.{task_weight}
use Rattle.codec_queues.proofs.queues.tasks_weight.Given as goal

abbrev pub invariant-loop-task : goal.invariant-loop-task
invariant-loop-task l = l.weight + sum_by task_weight l.queues.tasks ≡ sum_by task_weight l.fn.queues.tasks

abbrev pub decreases-loop-task : goal.decreases-loop-task
decreases-loop-task l = length l.queues.tasks
