use Rattle.desk_threads.specs.RunLaws.{quiet_rest}
use Rattle.desk_threads.proofs.laws.rest_is_quiet.Goals as goal

pub returns : goal.returns
returns g c = quiet_rest
