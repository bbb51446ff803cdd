-- The queues of a codec as lists, and which of the tasks that were queued still count.
use Rattle.std.specs.Prelude.{ℕ, ◌+◌, ◌-◌, ◌≤◌, ◌==◌, Bool, ◌||◌, List, [], ◌∷◌, length, filter, count_by, ◌≡◌, if◌then◌else◌}
use Rattle.std.specs.List.{AllByRecursion}
use Rattle.codec_model.specs.declared.entry.Message.{Message}
use Rattle.codec_model.specs.declared.entry.Item.{Item}
use Rattle.codec_model.specs.declared.entry.Task.{Task}
use Rattle.codec_model.specs.Control.{is_dequeue, is_desaturate}

-- a task with the epoch in which it was queued
pub record QueuedTask : Type 0 where
  pub epoch : ℕ
  pub task : Task

-- What stands in the queues of a codec in an epoch. So many messages, items and tasks in all have a place.
pub record QueuesValue : Type 0 where
  pub epoch : ℕ
  pub messages : List Message
  pub work : List Item
  pub tasks : List Task
  pub message_places : ℕ
  pub work_places : ℕ
  pub task_places : ℕ

-- a removal leaves the tasks of its epoch behind, but for a dequeue event
abbrev pub counts : ℕ → QueuedTask → Bool
counts epoch q = (q.epoch == epoch) || is_dequeue q.task

-- the tasks that count
abbrev pub tasks_of : ℕ → List QueuedTask → List Task
tasks_of epoch [] = []
tasks_of epoch (q ∷ qs) = if counts epoch q then q.task ∷ tasks_of epoch qs else tasks_of epoch qs

-- how many tasks that count have a place in a ring of so many places
abbrev pub places_of : ℕ → List QueuedTask → ℕ → ℕ
places_of epoch qs capacity = length (tasks_of epoch qs) + (capacity - length qs)

-- no task is of a later epoch
pub record AreQueued (epoch : ℕ) (qs : List QueuedTask) : Type 0 where
  pub each : AllByRecursion (λ q. q.epoch ≤ epoch) qs

-- no task is of a later epoch, and so many that count desaturate the codec
pub record AreOfQueues (epoch : ℕ) (qs : List QueuedTask) (desaturates : ℕ) : Type 0 where
  pub queued : AreQueued epoch qs
  pub counted : desaturates ≡ count_by is_desaturate (tasks_of epoch qs)

-- a removal: a new epoch, with no messages and no items, and with the dequeue events alone
abbrev pub removed_from : QueuesValue → QueuesValue
removed_from q = record q { epoch = q.epoch + 1; messages = []; work = []; tasks = filter is_dequeue q.tasks; task_places = q.task_places + length (filter is_dequeue q.tasks) - length q.tasks }

-- other tasks in so many places
abbrev pub with_tasks : List Task → QueuesValue → QueuesValue
with_tasks ts q = record q { tasks = ts }

-- the places of others
abbrev pub with_places : QueuesValue → QueuesValue → QueuesValue
with_places o q = record q { message_places = o.message_places; work_places = o.work_places; task_places = o.task_places }
