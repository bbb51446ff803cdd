use Rattle.load_summary.proofs.NoFiles.{lack_nothing}
use Rattle.load_summary.proofs.lacks.loads_lack_nothing.Goals as goal

pub returns : goal.returns
returns c = lack_nothing
