use Rattle.std.proofs.Common.{◌∙◌, sym}
use Rattle.legal_fronts.proofs.Ledgers.{lent_here}
use Rattle.legal_fronts.proofs.ledger.Ledger.put.Goals as goal

pub returns-then-is_of : goal.returns-then-is_of
returns-then-is_of c = lent_here c.args.self.now.boxes.items c.deref-other-items.result.now c.loop-place.place _ c.args.lending c.deref-other-items.ensures.value c.loop-place-test.true (sym c.is_of.ensures ∙ c.if-is_of.true) c.loop-place.invariant
