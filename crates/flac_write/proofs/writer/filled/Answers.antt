use Rattle.flac_write.proofs.Shifts.{filled_value}
use Rattle.flac_write.proofs.writer.filled.Goals as goal

pub returns : goal.returns
returns c = filled_value c.args.last c.args.used c.args.n c.args.v c.requires.used c.requires.last c.requires.room c.requires.v
