use Rattle.std.proofs.Common.{◌-◌, ◌/◌, ◌%◌, ◌^◌, arith, ap, ◌∙◌}
use Rattle.flac_definitions.specs.BitLaws.{field_in}
use Rattle.flac_bits.proofs.reader.number_at.Goals as goal

pub returns-then-first-bytes-clause-number : goal.returns-then-first-bytes-clause-number
returns-then-first-bytes-clause-number c =
    c.field_of.ensures
    ∙ ap (λ w. w / 2 ^ (64 - c.args.at % 8 - c.args.n) % 2 ^ c.args.n) c.word_at.ensures
    ∙ field_in c.args.bytes.now c.args.at 8 c.args.n (omega arith) (omega arith)
