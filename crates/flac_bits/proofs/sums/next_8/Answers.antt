use Rattle.std.proofs.Common.{arith, ◌∙◌}
use Rattle.flac_bits.proofs.ByteSumLaws.{next_byte_8}
use Rattle.flac_bits.proofs.sums.next_8.Goals as goal

pub returns : goal.returns
returns c = c.part_0.ensures ∙ next_byte_8 0x07 c.args.sum c.args.byte (omega arith) (omega arith) (omega arith)
