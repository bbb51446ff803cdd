use Rattle.std.proofs.Common.{arith}
use Rattle.flac_bits.specs.WindowLaws.{no_window}
use Rattle.flac_bits.proofs.reader.BitReader.new.Goals as goal

pub invariant_of-result : goal.invariant_of-result
invariant_of-result c = (c.requires, (omega arith), no_window c.args.bytes.now 0 (omega arith))
