use Rattle.run_laws.proofs.Telling.{log_told}
use Rattle.run_laws.proofs.laws.ends_are_told.Goals as goal

pub returns : goal.returns
returns c = log_told
