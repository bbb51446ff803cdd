use Rattle.wc_script.proofs.SoundLaws.{walk_is_sound}
use Rattle.wc_script.proofs.laws.scripts_are_sound.Goals as goal

pub returns : goal.returns
returns c = walk_is_sound c.steps_are_sound.ensures
