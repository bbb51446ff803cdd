use Rattle.wc_demux.proofs.WithinLaws.{media_small}
use Rattle.wc_demux.proofs.laws.media_are_small.Goals as goal

pub returns : goal.returns
returns c = media_small c.frames_are_found.ensures
