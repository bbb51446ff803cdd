use Rattle.std.proofs.Common.{arith}
use Rattle.flac_write.proofs.Shifts.{low_value}
use Rattle.flac_write.proofs.writer.low.Goals as goal

pub returns-clause-value : goal.returns-clause-value
returns-clause-value c = low_value c.args.v c.args.n 64 (omega (arith, c.requires))
