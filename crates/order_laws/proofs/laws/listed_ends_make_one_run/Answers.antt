use Rattle.order_laws.proofs.Same.{one_run_with}
use Rattle.order_laws.proofs.laws.listed_ends_make_one_run.Goals as goal

pub returns : goal.returns
returns c = one_run_with
