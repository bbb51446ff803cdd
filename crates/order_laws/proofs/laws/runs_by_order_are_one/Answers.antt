use Rattle.order_laws.proofs.Same.{one_run}
use Rattle.order_laws.proofs.laws.runs_by_order_are_one.Goals as goal

pub returns : goal.returns
returns c = one_run
