use Rattle.std.proofs.Common.{sym, ◌∙◌, arith}
use Rattle.slot_registry.proofs.Walks.{counts_yes, counts_no, one_more_out, is_free_at, are_all_out}
use Rattle.slot_registry.proofs.slots.Slots.search.Goals as goal
use Rattle.slot_registry.proofs.slots.Slots.search.Goals.{then-is_of+else-is_home, else-is_of}

pub returns-then-is_home : goal.returns-then-is_home
returns-then-is_home g c =
    let known = c.loop-place.invariant in
    is_free_at known.walk (omega arith) c.kept-item.is known.kept (sym c.is_of.ensures ∙ c.if-is_of.true) (sym c.is_home.ensures ∙ c.if-is_home.true) known.out

pub loop-place-preserved : goal.loop-place-preserved
loop-place-preserved g c =
    let known = c.loop-place.invariant in
    elim c.if-is_of.branch [
      | then-is_of+else-is_home w ↦
          let is = sym c.is_of.ensures ∙ w.if-is_of.true in
          rw w.number-is (record { walk = counts_yes known.walk (omega arith) c.kept-item.is is; kept = known.kept; out = one_more_out known.walk (omega arith) c.kept-item.is known.kept is (sym w.is_home.ensures ∙ w.if-is_home.false) known.out })
      | else-is_of w ↦ rw w.number-is (record { walk = counts_no known.walk (omega arith) c.kept-item.is (sym c.is_of.ensures ∙ w.if-is_of.false); kept = known.kept; out = known.out })
    ]

pub returns : goal.returns
returns g c = are_all_out c.loop-place.invariant.walk (omega arith) c.loop-place.invariant.out
