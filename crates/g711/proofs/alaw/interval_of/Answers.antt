use Rattle.std.proofs.Common.{arith}
use Rattle.g711.proofs.alaw.interval_of.Goals as goal
use Rattle.g711.proofs.AlawCodes.{later_interval}

pub returns-else-magnitude-lt256-clause-low : goal.returns-else-magnitude-lt256-clause-low
returns-else-magnitude-lt256-clause-low c = (later_interval _ _ c.args.magnitude (omega arith) (omega arith) c.if-magnitude-lt256.false c.segment_of.ensures.segment).0

pub returns-else-magnitude-lt256-clause-high : goal.returns-else-magnitude-lt256-clause-high
returns-else-magnitude-lt256-clause-high c = (later_interval _ _ c.args.magnitude (omega arith) (omega arith) c.if-magnitude-lt256.false c.segment_of.ensures.segment).1
