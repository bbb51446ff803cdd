use Rattle.media_variables.proofs.Made.{seen_sound_same}
use Rattle.media_variables.proofs.lending.another_audio.Goals as goal

pub returns-clause-same : goal.returns-clause-same
returns-clause-same g c = seen_sound_same g.P.RefPool.lasting g.P.RefPool.lasts _ _ c.clone_data.ensures.same
