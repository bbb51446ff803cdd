use Rattle.port_laws.proofs.Delivering.{delivers}
use Rattle.port_laws.proofs.laws.ports_deliver.Goals as goal

pub returns : goal.returns
returns c script media histories deeds run sound ports made = delivers script media histories deeds run sound ports made
