use Rattle.media_variables.proofs.Ends.{ends}
use Rattle.media_variables.proofs.ending.end_reference.Goals as goal

pub returns-clause-ended : goal.returns-clause-ended
returns-clause-ended c = ends c.args.by c.args.pool.now c.end.new.self c.args.r _ c.end.ensures.ended
