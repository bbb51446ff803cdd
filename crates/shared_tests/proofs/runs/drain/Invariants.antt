use Rattle.shared_codec.specs.Keeps.{Keeps}
use Rattle.shared_pool.specs.Steps as pools
use Rattle.shared_slots.specs.Steps as slots
use Rattle.shared_tests.proofs.runs.drain.Given as goal

abbrev pub invariant-loop : goal.invariant-loop
invariant-loop g l = Keeps l.codec.id l.initial.seat l.seat × Keeps l.slots.id l.initial.slot_seat l.slot_seat × slots.IsFree l.slots.id l.slot_seat × Keeps l.pool l.initial.pool_seat l.pool_seat × pools.IsFree l.pool l.pool_seat
