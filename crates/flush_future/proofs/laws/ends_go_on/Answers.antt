use Rattle.flush_future.proofs.Logs.{ends_go_on}
use Rattle.flush_future.proofs.laws.ends_go_on.Goals as goal

pub returns : goal.returns
returns c = ends_go_on
