use Rattle.codec_follow.proofs.Erased.{steps_erased}
use Rattle.codec_follow.proofs.laws.legal_steps_are_followed.Goals as goal

pub returns : goal.returns
returns c = steps_erased
