use Rattle.codec_follow.proofs.OutputLaws.{outputs_of_kind}
use Rattle.codec_follow.proofs.laws.outputs_are_of_their_kind.Goals as goal

pub returns : goal.returns
returns c = outputs_of_kind
