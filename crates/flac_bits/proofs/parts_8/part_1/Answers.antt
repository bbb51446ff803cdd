use Rattle.std.proofs.Common.{ℕ, List, get_or, arith, ap, ◌∙◌}
use Rattle.flac_bits.specs.ByteSums.{after_zeros}
use Rattle.flac_bits.proofs.ByteSumLaws.{table_at}
use Rattle.flac_bits.proofs.parts_8.part_1.Goals as goal

pub returns : goal.returns
returns c =
    ap (λ (xs : List ℕ). get_or xs c.args.byte 0) c.table_1.ensures ∙ table_at (after_zeros 8 0x07 16) 256 c.args.byte (omega arith)
