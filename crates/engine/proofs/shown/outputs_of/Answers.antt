use Rattle.std.proofs.Common.{◌∙◌, sym}
use Rattle.wc_base.specs.declared.error.DomError.TheVariants.{Abort, QuotaExceeded}
use Rattle.engine.proofs.Showings.{none_rejected, none_closed, task_shown}
use Rattle.engine.proofs.shown.outputs_of.Goals as goal

pub returns-in-Turn : goal.returns-in-Turn
returns-in-Turn c =
    let shown = task_shown c.in-Turn.task c.in-Turn.outputs in
    rw c.in-Turn.is (c.outputs_of_task.ensures ∙ sym shown)

pub returns-in-Removal : goal.returns-in-Removal
returns-in-Removal c = rw c.in-Removal.is (sym (none_rejected Abort c.in-Removal.field-0))

pub returns-in-Reclaim : goal.returns-in-Reclaim
returns-in-Reclaim c = rw c.in-Reclaim.is (sym (none_closed QuotaExceeded c.in-Reclaim.field-0))

pub returns-in-Close : goal.returns-in-Close
returns-in-Close c =
    rw c.in-Close.is (sym (none_closed c.in-Close.error c.in-Close.promises))
