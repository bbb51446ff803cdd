use Rattle.engine.proofs.Cases.{performed_end}
use Rattle.engine.proofs.work.end_of.Goals as goal

pub returns-else-is_some : goal.returns-else-is_some
returns-else-is_some c =
    let own = c.with_box-job.ensures in
    let end = c.perform.ensures in
    performed_end _ _ _ own.stays end.end end.answer own.epoch own.number end.epoch end.number
