use Rattle.std.proofs.Common.{arith}
use Rattle.flac_encode.proofs.Filled.{bytes_are}
use Rattle.flac_encode.proofs.block.bytes_are_of_bits.Goals as goal

pub returns : goal.returns
returns c = bytes_are c.args.bytes.now (λ i. omega (arith, c.type_inv.bytes i))
