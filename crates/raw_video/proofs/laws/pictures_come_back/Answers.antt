use Rattle.raw_video.proofs.BackLaws.{come_back}
use Rattle.raw_video.proofs.laws.pictures_come_back.Goals as goal

pub returns : goal.returns
returns c = come_back
