use Rattle.wc_script.proofs.WithinLaws.{script_small}
use Rattle.wc_script.proofs.laws.scripts_are_within.Goals as goal

pub returns : goal.returns
returns c = script_small c.steps_are_within.ensures
