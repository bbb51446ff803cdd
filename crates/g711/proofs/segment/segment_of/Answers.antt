use Rattle.std.proofs.Common.{arith}
use Rattle.g711.proofs.Segments.{segmented}
use Rattle.g711.proofs.segment.segment_of.Goals as goal

pub overflow_sub-mantissa : goal.overflow_sub-mantissa
overflow_sub-mantissa c = let e = c.exponent_of-exponent in (segmented c.args.magnitude e.result e.ensures.bound e.ensures.low e.ensures.high).low

pub overflow_cast-result : goal.overflow_cast-result
overflow_cast-result c = let e = c.exponent_of-exponent in omega (arith, segmented c.args.magnitude e.result e.ensures.bound e.ensures.low e.ensures.high)

pub overflow_add-result : goal.overflow_add-result
overflow_add-result c = let e = c.exponent_of-exponent in omega (arith, segmented c.args.magnitude e.result e.ensures.bound e.ensures.low e.ensures.high)

pub returns : goal.returns
returns c =
    let e = c.exponent_of-exponent in
    let s = segmented c.args.magnitude e.result e.ensures.bound e.ensures.low e.ensures.high in
    record { bits = omega (arith, s); segment = s.segment }
