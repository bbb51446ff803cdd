use Rattle.port_laws.proofs.Ranking.{ranked}
use Rattle.port_laws.proofs.laws.runs_are_ranked.Goals as goal

pub returns : goal.returns
returns c script media histories deeds run sound ports made = ranked script media histories deeds run sound ports made
