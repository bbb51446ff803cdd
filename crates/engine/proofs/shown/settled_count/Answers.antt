use Rattle.std.proofs.Common.{◌∙◌, ap, length, sym}
use Rattle.wc_base.specs.declared.error.DomError.TheVariants.{Abort, QuotaExceeded}
use Rattle.engine.proofs.Showings.{removal_count, closing_count, task_ends}
use Rattle.engine.proofs.shown.settled_count.Goals as goal

pub returns-in-Turn : goal.returns-in-Turn
returns-in-Turn c =
    let ends = task_ends c.in-Turn.task c.in-Turn.outputs in
    rw c.in-Turn.is (c.resolved_count.ensures ∙ sym (ap length ends))

pub returns-in-Removal : goal.returns-in-Removal
returns-in-Removal c =
    let count = removal_count Abort c.in-Removal.promises in
    rw c.in-Removal.is (c.len.ensures ∙ sym count)

pub returns-in-Reclaim : goal.returns-in-Reclaim
returns-in-Reclaim c =
    let count = closing_count QuotaExceeded c.in-Reclaim.promises in
    rw c.in-Reclaim.is (c.len-in-Reclaim.ensures ∙ sym count)

pub returns-in-Close : goal.returns-in-Close
returns-in-Close c =
    let count = closing_count c.in-Close.error c.in-Close.promises in
    rw c.in-Close.is (c.len-in-Close.ensures ∙ sym count)
