use Rattle.codec_model.proofs.LeftLaws.{leaves_fewer}
use Rattle.codec_model.proofs.facts.steps_leave_fewer.Goals as goal

pub returns : goal.returns
returns c = leaves_fewer
