use Rattle.std.proofs.Common.{◌≡◌, ◌≤◌, true}
use Rattle.slot_registry.specs.{Boxes.is_out, Places.IsKept}
use Rattle.slot_registry.proofs.Walks.{IsWalk}
use Rattle.slot_registry.proofs.slots.Slots.place_of.Given as goal

abbrev pub invariant-loop-place : goal.invariant-loop-place
invariant-loop-place g l = record {
  walk : IsWalk l.kept-items l.self l.id l.place l.before;
  kept : IsKept l.kept-items l.self.history;
  low : l.before ≤ l.number;
  out : is_out l.id l.number l.self.history ≡ true;
}
