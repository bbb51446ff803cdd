use Rattle.flac_bits.specs.WindowLaws.{moved_twice}
use Rattle.flac_rice.proofs.value.shift_twice.Goals as goal

pub returns : goal.returns
returns c = moved_twice c.args.word c.args.first c.args.second
