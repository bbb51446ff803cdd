use Rattle.sample_conversion.proofs.Sizes.{come_back}
use Rattle.sample_conversion.proofs.interleave.sixteen_bits_come_back.Goals as goal

pub returns : goal.returns
returns c = come_back
