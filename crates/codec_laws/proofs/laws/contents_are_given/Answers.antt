use Rattle.codec_laws.proofs.ContentLaws.{contents_given}
use Rattle.codec_laws.proofs.laws.contents_are_given.Goals as goal

pub returns : goal.returns
returns c = contents_given
