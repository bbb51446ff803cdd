use Rattle.std.proofs.Common.{◌≡◌, ◌+◌, ◌-◌, drop, arith, ap, sym, ◌∙◌}
use Rattle.flac_definitions.specs.Bits.{bits_in, zeros_before}
use Rattle.flac_definitions.specs.BitLaws.{zeros_here, zeros_past, zeros_none, with_zeros, length-bits_in}
use Rattle.flac_bits.proofs.reader.zeros_from.Goals as goal

pub returns-then-bit_at-eq1-clause-zeros : goal.returns-then-bit_at-eq1-clause-zeros
returns-then-bit_at-eq1-clause-zeros c =
    let bits = bits_in c.args.bytes.now in let i = c.loop-place.place in
    sym (c.loop-place.invariant ∙ zeros_here bits i (i - c.args.at) (omega (arith, length-bits_in c.args.bytes.now)) (omega (arith, c.bit_at.ensures.number)))

pub loop-place-preserved : goal.loop-place-preserved
loop-place-preserved c =
    let bits = bits_in c.args.bytes.now in let i = c.loop-place.place in
    let e : i - c.args.at + 1 ≡ i + 1 - c.args.at = omega arith in
    c.loop-place.invariant ∙ zeros_past bits i (i - c.args.at) (omega (arith, length-bits_in c.args.bytes.now)) (omega (arith, c.bit_at.ensures.number)) (omega (arith, c.bit_at.ensures.number))
    ∙ ap (λ k. with_zeros k (zeros_before (drop (i + 1) bits))) e

pub returns-clause-zeros : goal.returns-clause-zeros
returns-clause-zeros c =
    let bits = bits_in c.args.bytes.now in let i = c.loop-place.place in
    sym (c.loop-place.invariant ∙ zeros_none bits i (i - c.args.at) (omega (arith, length-bits_in c.args.bytes.now)))
