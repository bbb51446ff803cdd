use Rattle.shared_port.proofs.Accounts.{accounts}
use Rattle.shared_port.proofs.laws.last_passes_account.Goals as goal

pub returns : goal.returns
returns g c = accounts _
