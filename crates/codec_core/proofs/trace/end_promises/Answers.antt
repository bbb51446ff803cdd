use Rattle.wc_base.specs.declared.error.DomError.TheVariants.{Abort, QuotaExceeded}
use Rattle.codec_core.proofs.Promises.{rejection_ends, close_ends, task_ends, rejected_below}
use Rattle.codec_core.proofs.trace.end_promises.Goals as goal

pub reject_promises-requires : goal.reject_promises-requires
reject_promises-requires c =
    rw c.as_slice.ensures (rejected_below Abort _ c.in-Removal.promises (rw (rejection_ends Abort c.in-Removal.promises) at (rw c.in-Removal.is at c.requires)))

pub reject_promises-requires-in-Reclaim : goal.reject_promises-requires-in-Reclaim
reject_promises-requires-in-Reclaim c =
    rw c.as_slice-in-Reclaim.ensures (rejected_below QuotaExceeded _ c.in-Reclaim.promises (rw (close_ends QuotaExceeded c.in-Reclaim.promises) at (rw c.in-Reclaim.is at c.requires)))

pub reject_promises-requires-in-Close : goal.reject_promises-requires-in-Close
reject_promises-requires-in-Close c =
    rw c.as_slice-in-Close.ensures (rejected_below c.in-Close.error _ c.in-Close.promises (rw (close_ends c.in-Close.error c.in-Close.promises) at (rw c.in-Close.is at c.requires)))

pub resolve_promise-requires : goal.resolve_promise-requires
resolve_promise-requires c = rw (task_ends c.in-Turn.task c.in-Turn.outputs) at (rw c.in-Turn.is at c.requires)

pub returns-in-Removal-clause-states : goal.returns-in-Removal-clause-states
returns-in-Removal-clause-states c = λ ends h. rw (c.in-Removal.is, rejection_ends Abort c.in-Removal.promises, ← c.as_slice.ensures) (c.reject_promises.ensures.states ends h)

pub returns-in-Reclaim-clause-states : goal.returns-in-Reclaim-clause-states
returns-in-Reclaim-clause-states c = λ ends h. rw (c.in-Reclaim.is, close_ends QuotaExceeded c.in-Reclaim.promises, ← c.as_slice-in-Reclaim.ensures) (c.reject_promises-in-Reclaim.ensures.states ends h)

pub returns-in-Turn-clause-states : goal.returns-in-Turn-clause-states
returns-in-Turn-clause-states c = λ ends h. rw (c.in-Turn.is, task_ends c.in-Turn.task c.in-Turn.outputs) (c.resolve_promise.ensures.states ends h)

pub returns-in-Close-clause-states : goal.returns-in-Close-clause-states
returns-in-Close-clause-states c = λ ends h. rw (c.in-Close.is, close_ends c.in-Close.error c.in-Close.promises, ← c.as_slice-in-Close.ensures) (c.reject_promises-in-Close.ensures.states ends h)
