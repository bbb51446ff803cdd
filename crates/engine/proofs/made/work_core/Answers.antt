use Rattle.engine.proofs.Cases.{worked_made}
use Rattle.engine.proofs.made.work_core.Goals as goal

pub returns-in-Some : goal.returns-in-Some
returns-in-Some c =
    worked_made _ _ _ _ c.in-Some.job c.end_of-end.result
    (rw c.in-Some.is at c.start.ensures.made)
    (rw c.in-Some.is at c.start.ensures.job)
    c.end_of-end.ensures
    c.done.ensures.made
