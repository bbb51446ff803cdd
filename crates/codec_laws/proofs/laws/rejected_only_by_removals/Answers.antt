use Rattle.codec_laws.proofs.OnlyLaws.{rejected_only}
use Rattle.codec_laws.proofs.laws.rejected_only_by_removals.Goals as goal

pub returns : goal.returns
returns c = rejected_only
