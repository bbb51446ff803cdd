use Rattle.flac_definitions.specs.Plans.{plan_bits, finest}
use Rattle.flac_plans.proofs.Least.{plan_no_less, below_least}
use Rattle.flac_plans.proofs.Windows.{is_first}
use Rattle.flac_plans.proofs.laws.no_plan_is_below_leasts.Goals as goal

pub returns : goal.returns
returns c = record {
  plans = plan_no_less;
  parts = below_least;
  partitions = λ block order most zs. (is_first (plan_bits block order zs) (finest block order most)).to_ge;
}
