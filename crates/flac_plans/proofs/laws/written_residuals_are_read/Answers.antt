use Rattle.std.proofs.Common.{map}
use Rattle.flac_definitions.specs.ResidualSpelling.{folded_value}
use Rattle.flac_definitions.specs.ResidualWriting.{residual_bits}
use Rattle.flac_plans.proofs.ResidualLaws.{residual_spelled}
use Rattle.flac_plans.proofs.laws.written_residuals_are_read.Goals as goal

pub returns : goal.returns
returns c = record {
  spelled = residual_spelled;
  read = λ block order p xs ks q w b. (c.residuals_are_spelled.ensures block order).whole q xs (residual_bits block order (map folded_value xs) p ks) (residual_spelled block order p xs ks w) b;
}
