use Rattle.slot_registry.proofs.Walks.{IsWalk}
use Rattle.slot_registry.proofs.slots.Slots.made.Given as goal

abbrev pub invariant-loop-place : goal.invariant-loop-place
invariant-loop-place g l = IsWalk l.place-items l.self l.id l.place-index l.count
