use Rattle.std.proofs.Common.{◌∙◌, Some, is_some, ap, sym}
use Rattle.wc_replay.proofs.Takes.{none_next, some_next}
use Rattle.wc_replay.proofs.desk.Desk.next_output.Goals as goal

pub returns-in_ok-copy-in-Some : goal.returns-in_ok-copy-in-Some
returns-in_ok-copy-in-Some g c =
    let i = c.self.inside in
    some_next i.core.codec i.job i.refusal c.args.self.now (record { number = c.taken.result; unit = c.in_ok-copy-in-Some.field-0 }) c.self.view_is
    (rw c.core-core.ensures at c.in-Some.ensures.unit ∙ ap Some (sym c.in_ok-copy-in-Some.ensures)) (rw c.core-core.ensures at c.taken.ensures) (ap is_some (sym c.in-Some.is) ∙ rw c.core-core.ensures at c.next_output.ensures.may)

pub returns-in-None : goal.returns-in-None
returns-in-None g c =
    let i = c.self.inside in
    none_next i.core.codec i.job i.refusal c.args.self.now c.self.invariant c.self.view_is (ap is_some (sym c.in-None.is) ∙ rw c.core-core.ensures at c.next_output.ensures.may)
