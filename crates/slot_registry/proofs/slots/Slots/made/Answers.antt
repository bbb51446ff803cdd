use Rattle.std.proofs.Common.{sym, ◌∙◌, arith}
use Rattle.slot_registry.proofs.Walks.{counts_yes, counts_no}
use Rattle.slot_registry.proofs.slots.Slots.made.Goals as goal
use Rattle.slot_registry.proofs.slots.Slots.made.Goals.{then-is_of, else-is_of}

pub loop-place-preserved : goal.loop-place-preserved
loop-place-preserved g c = elim c.if-is_of.branch [
  | then-is_of w ↦ rw w.count-is (counts_yes c.loop-place.invariant (omega arith) c.place-item.is (sym c.is_of.ensures ∙ w.if-is_of.true))
  | else-is_of w ↦ rw w.count-is (counts_no c.loop-place.invariant (omega arith) c.place-item.is (sym c.is_of.ensures ∙ w.if-is_of.false))
]
