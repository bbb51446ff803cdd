use Rattle.run_laws.proofs.Reclaiming.{timely}
use Rattle.run_laws.proofs.laws.moments_fit.Goals as goal

pub returns : goal.returns
returns c = timely
