use Rattle.flac_subframe_laws.proofs.Subframes.{written_subframes}
use Rattle.flac_subframe_laws.proofs.laws.written_subframes_are_read.Goals as goal

pub returns : goal.returns
returns c = written_subframes c.written_residuals_are_read.ensures c.subframes_are_spelled.ensures
