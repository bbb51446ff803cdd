use Rattle.media_files.proofs.WithinLaws.{media_small}
use Rattle.media_files.proofs.laws.media_are_within.Goals as goal

pub returns : goal.returns
returns c = media_small c.media_are_small.ensures
