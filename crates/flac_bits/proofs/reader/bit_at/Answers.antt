use Rattle.std.proofs.Common.{arith}
use Rattle.flac_definitions.specs.BitLaws.{bit_in}
use Rattle.flac_bits.proofs.reader.bit_at.Goals as goal

pub returns-clause-number : goal.returns-clause-number
returns-clause-number c = bit_in c.args.bytes.now c.args.at c.requires (λ i. omega (arith, c.type_inv.bytes i))
