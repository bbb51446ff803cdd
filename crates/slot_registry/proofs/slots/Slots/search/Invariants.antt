use Rattle.std.proofs.Common.{◌≡◌, ◌<◌, ℕ, true}
use Rattle.slot_registry.specs.{Boxes.is_out, Places.IsKept}
use Rattle.slot_registry.proofs.Walks.{IsWalk}
use Rattle.slot_registry.proofs.slots.Slots.search.Given as goal

abbrev pub invariant-loop-place : goal.invariant-loop-place
invariant-loop-place g l = record {
  walk : IsWalk l.kept-items l.self l.id l.place l.number;
  kept : IsKept l.kept-items l.self.history;
  out : (m : ℕ) → m < l.number → is_out l.id m l.self.history ≡ true;
}
