use Rattle.std.proofs.Common.{arith, ◌/◌}
use Rattle.std.proofs.lemmas.Nat.{pow-add}
use Rattle.g711.proofs.{Segments.exponent_small, TableLaws.top_of}
use Rattle.g711.proofs.segment.exponent_of.Goals as goal

pub returns : goal.returns
returns c =
    let top = top_of c.top_bits.result.now (c.args.magnitude / 128) c.top_bits.ensures (omega arith) (omega arith) in
    record { bound = exponent_small c.args.magnitude _ c.requires.most top.0; low = omega (arith, pow-add 2, top.0); high = omega (arith, pow-add 2, top.1) }
