use Rattle.run_laws.proofs.Lending.{codecs_are_paid}
use Rattle.run_laws.proofs.laws.codecs_are_paid.Goals as goal

pub returns : goal.returns
returns c = codecs_are_paid
