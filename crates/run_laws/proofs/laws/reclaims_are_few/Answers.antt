use Rattle.run_laws.proofs.Reclaiming.{few_reclaims}
use Rattle.run_laws.proofs.laws.reclaims_are_few.Goals as goal

pub returns : goal.returns
returns c = few_reclaims
