use Rattle.script_steps.proofs.WithinLaws.{step_within}
use Rattle.script_steps.proofs.laws.steps_are_within.Goals as goal

pub returns : goal.returns
returns c = step_within
