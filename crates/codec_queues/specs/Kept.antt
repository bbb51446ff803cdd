-- What the kept queues mean, and the places that they have.
use Rattle.std.specs.Prelude.{◌≡◌, count_by, ◌+◌, ◌*◌, ◌≤◌, ◌<◌, ◌^◌, length, IfSome}
use Rattle.codec_model.specs.Control.{Control, is_coded, coded_out, left}
use Rattle.codec_queues.specs.Rising.{IsRising}
use Rattle.codec_queues.specs.declared.machine.Machine.TheInside.{Inside}

abbrev pub control_of : Inside → Control
control_of m = record {
  place = m.place;
  opening = m.opening;
  phase = m.phase;
  epoch = m.queues.epoch;
  key_required = m.key_required;
  messages = m.queues.messages;
  blocked = m.blocked;
  saturated = m.saturated;
  halted = m.halted;
  size = m.size;
  pending = m.pending.items;
  work = m.queues.work;
  next_item = m.next_item;
  running = m.running;
  tasks = m.queues.tasks;
  scheduled = m.scheduled;
  shown = m.shown;
  taken = m.taken;
  active = m.active;
  progress = m.progress;
  own_ground = m.own_ground;
}

-- Work and tasks have a place for all that may still come to them, no number passes the count of entries, the counts of
-- coded messages and of coded items are theirs, and pending promises stand in the order of their calls.
pub record IsRoomy (m : Inside) : Type 0 where
  pub counted : left (control_of m) ≤ m.room
  pub small : m.room + 1 < 2 ^ 62
  pub for_work : m.room ≤ m.queues.work_places
  pub for_tasks : left (control_of m) + 1 ≤ m.queues.task_places
  pub epochs : m.queues.epoch ≤ m.place
  pub ran : IfSome m.running (λ r. r.epoch ≤ m.queues.epoch)
  pub items : m.next_item + length m.queues.messages ≤ m.place
  pub sizes : m.size ≡ count_by (λ x. is_coded x.work) m.queues.messages
  pub coded : m.coded ≡ coded_out (control_of m)
  pub promises : IsRising m.pending.items m.place
  pub outputs : m.shown ≤ 2 ^ 64 * m.place
  pub takes : m.taken ≤ m.place
