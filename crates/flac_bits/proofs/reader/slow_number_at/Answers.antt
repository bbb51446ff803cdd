use Rattle.std.proofs.Common.{◌≡◌, ◌^◌, drop, arith, ap}
use Rattle.flac_definitions.specs.Bits.{bits_in}
use Rattle.flac_definitions.specs.BitLaws.{bit_more, number_fits, number_of_take-lt, length-bits_in, take_nothing}
use Rattle.flac_bits.proofs.reader.slow_number_at.Goals as goal

pub loop-i-init : goal.loop-i-init
loop-i-init c = take_nothing (drop c.args.at (bits_in c.args.bytes.now))

pub overflow_mul-number : goal.overflow_mul-number
overflow_mul-number c = omega (arith, c.loop-i.invariant, number_fits (drop c.args.at (bits_in c.args.bytes.now)) c.loop-i.i c.args.n 0 (omega arith) (omega arith) (omega arith))

pub overflow_add-number : goal.overflow_add-number
overflow_add-number c = omega (arith, c.loop-i.invariant, number_fits (drop c.args.at (bits_in c.args.bytes.now)) c.loop-i.i c.args.n c.bit_at.result (omega arith) (omega arith) (omega arith))

pub loop-i-preserved : goal.loop-i-preserved
loop-i-preserved c =
    let bits = bits_in c.args.bytes.now in
    let more = bit_more bits c.args.at c.loop-i.i (omega (arith, length-bits_in c.args.bytes.now)) in
    omega (arith, more, c.loop-i.invariant, c.bit_at.ensures.number)

pub returns-clause-fits : goal.returns-clause-fits
returns-clause-fits c =
    let e : c.loop-i.i ≡ c.args.n = omega arith in
    omega (arith, c.loop-i.invariant, number_of_take-lt c.loop-i.i (drop c.args.at (bits_in c.args.bytes.now)), ap (λ k. 2 ^ k) e)
