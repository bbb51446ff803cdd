use Rattle.std.proofs.Common.{◌≡◌, ◌++◌, take, drop}
use Rattle.legal_fronts.specs.Boxes.{lent}
use Rattle.legal_fronts.proofs.ledger.Ledger.put.Given as goal

abbrev pub invariant-loop-place : goal.invariant-loop-place
invariant-loop-place l = let boxes = l.fn.self.boxes.items in lent l.lending boxes ≡ take l.place boxes ++ lent l.lending (drop l.place boxes)
