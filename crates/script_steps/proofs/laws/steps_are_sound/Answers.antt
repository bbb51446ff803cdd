use Rattle.script_steps.proofs.StepLaws.{step_sound}
use Rattle.script_steps.proofs.laws.steps_are_sound.Goals as goal

pub returns : goal.returns
returns c = step_sound
