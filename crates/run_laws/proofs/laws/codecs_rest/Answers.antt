use Rattle.run_laws.proofs.Fitting.{codecs_rest}
use Rattle.run_laws.proofs.laws.codecs_rest.Goals as goal

pub returns : goal.returns
returns c = codecs_rest
