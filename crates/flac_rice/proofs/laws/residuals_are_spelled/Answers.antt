use Rattle.flac_rice.specs.ResidualLaws.{residual}
use Rattle.flac_rice.proofs.laws.residuals_are_spelled.Goals as goal

pub returns : goal.returns
returns c = λ block order. residual block order
