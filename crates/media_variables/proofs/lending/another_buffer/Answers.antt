use Rattle.media_variables.proofs.Made.{seen_buffer_same}
use Rattle.media_variables.proofs.lending.another_buffer.Goals as goal

pub returns-clause-same : goal.returns-clause-same
returns-clause-same g c = seen_buffer_same g.P.RefPool.lasting g.P.RefPool.lasts _ _ c.clone_buffer.ensures.same
