use Rattle.std.proofs.Common.{sym, ◌∙◌, arith}
use Rattle.slot_registry.proofs.Walks.{found_at, counts_yes, counts_no}
use Rattle.slot_registry.proofs.slots.Slots.place_of.Goals as goal
use Rattle.slot_registry.proofs.slots.Slots.place_of.Goals.{then-is_of+else-before-number, else-is_of}

pub returns-then-before-number-clause-at : goal.returns-then-before-number-clause-at
returns-then-before-number-clause-at g c = found_at c.loop-place.invariant.walk (omega arith) c.kept-item.is (sym c.is_of.ensures ∙ c.if-is_of.true)

pub loop-place-preserved : goal.loop-place-preserved
loop-place-preserved g c =
    let known = c.loop-place.invariant in
    elim c.if-is_of.branch [
      | then-is_of+else-before-number w ↦ record { walk = rw w.before-is (counts_yes known.walk (omega arith) c.kept-item.is (sym c.is_of.ensures ∙ w.if-is_of.true)); kept = known.kept; low = omega arith; out = known.out }
      | else-is_of w ↦ record { walk = rw w.before-is (counts_no known.walk (omega arith) c.kept-item.is (sym c.is_of.ensures ∙ w.if-is_of.false)); kept = known.kept; low = omega arith; out = known.out }
    ]
