use Rattle.std.proofs.Common.{arith, ◌∙◌}
use Rattle.flac_definitions.specs.BitLaws.{word_number}
use Rattle.flac_bits.proofs.reader.word_at.Goals as goal

pub returns : goal.returns
returns c = c.from_be_bytes.ensures ∙ word_number c.args.bytes.now c.args.first c.requires (λ i. omega (arith, c.type_inv.bytes i))
