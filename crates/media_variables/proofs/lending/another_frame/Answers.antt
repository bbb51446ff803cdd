use Rattle.media_variables.proofs.Made.{seen_frame_same}
use Rattle.media_variables.proofs.lending.another_frame.Goals as goal

pub returns-clause-same : goal.returns-clause-same
returns-clause-same g c = seen_frame_same g.P.RefPool.lasting g.P.RefPool.lasts _ _ c.clone_frame.ensures.same
