use Rattle.std.proofs.Common.{◌∙◌, ap, slice_get, sym}
use Rattle.wc_base.specs.declared.error.DomError.TheVariants.{Abort, QuotaExceeded}
use Rattle.engine.proofs.Showings.{removal_at, closing_at, task_ends}
use Rattle.engine.proofs.shown.end_at.Goals as goal

pub returns-in-Turn : goal.returns-in-Turn
returns-in-Turn c =
    let ends = task_ends c.in-Turn.task c.in-Turn.outputs in
    rw c.in-Turn.is (c.resolved_at.ensures ∙ sym (ap (λ es. slice_get es c.args.number) ends))

pub returns-in-Removal : goal.returns-in-Removal
returns-in-Removal c =
    rw (c.in-Removal.is, removal_at Abort c.in-Removal.promises c.args.number)
    (rw c.as_slice.ensures at c.rejected_at.ensures)

pub returns-in-Reclaim : goal.returns-in-Reclaim
returns-in-Reclaim c =
    rw (c.in-Reclaim.is, closing_at QuotaExceeded c.in-Reclaim.promises c.args.number)
    (rw c.as_slice-in-Reclaim.ensures at c.rejected_at-in-Reclaim.ensures)

pub returns-in-Close : goal.returns-in-Close
returns-in-Close c =
    rw (c.in-Close.is, closing_at c.in-Close.error c.in-Close.promises c.args.number)
    (rw c.as_slice-in-Close.ensures at c.rejected_at-in-Close.ensures)
