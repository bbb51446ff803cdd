use Rattle.std.proofs.Common.{sym, ◌∙◌, ap, arith, is_some}
use Rattle.slot_registry.specs.Boxes.{is_out}
use Rattle.slot_registry.specs.NumberLaws.{find-all, find-first}
use Rattle.legal_fronts.proofs.ledger.Ledger.first_free.Goals as goal

pub returns-then-is_none : goal.returns-then-is_none
returns-then-is_none c = λ h ledger.
    let id = c.args.id in
    let n = c.loop-number.number in
    sym (find-first (λ m. is_out id m h) _ n (omega (arith, c.loop-number-test.true, c.count_of-number-end.ensures)) (c.loop-number.invariant h ledger) (ap is_some (sym (c.holder.ensures ∙ ledger id n)) ∙ c.if-is_none.ensures))

pub returns : goal.returns
returns c = λ h ledger. sym (find-all (λ m. is_out c.args.id m h) _ (λ m low. c.loop-number.invariant h ledger m (omega (arith, low, c.loop-number-test.false, c.count_of-number-end.ensures))))
