use Rattle.std.proofs.Common.{◌≡◌, drop}
use Rattle.legal_fronts.specs.Boxes.{held_by}
use Rattle.legal_fronts.proofs.ledger.Ledger.holder.Given as goal

abbrev pub invariant-loop-lending : goal.invariant-loop-lending
invariant-loop-lending l = held_by l.self.boxes.items l.id l.number ≡ held_by (drop l.lending-index l.self.boxes.items) l.id l.number
