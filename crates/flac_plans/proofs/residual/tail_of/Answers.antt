use Rattle.flac_plans.proofs.Spelled.{tail_value}
use Rattle.flac_plans.proofs.residual.tail_of.Goals as goal

pub returns-clause-value : goal.returns-clause-value
returns-clause-value c = tail_value c.args.k c.args.z c.requires
