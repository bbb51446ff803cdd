use Rattle.flac_plans.proofs.Least.{plan_least}
use Rattle.flac_plans.proofs.laws.no_plan_is_below.Goals as goal

pub returns : goal.returns
returns c = plan_least
