use Rattle.std.proofs.Common.{◌-◌, ◌/◌, ◌^◌, arith, ap, ◌∙◌}
use Rattle.std.specs.Prelude.{bit_and}
use Rattle.std.proofs.lemmas.Nat.{one_shl, and_mask}
use Rattle.flac_bits.proofs.reader.field_of.Goals as goal

pub returns : goal.returns
returns c =
    ap (λ m. bit_and (c.args.word / 2 ^ (64 - c.args.skipped - c.args.n)) (m - 1)) (one_shl c.args.n 64 (omega arith))
    ∙ and_mask (c.args.word / 2 ^ (64 - c.args.skipped - c.args.n)) c.args.n
