use Rattle.bytes_laws.proofs.Within.{spelled_within}
use Rattle.bytes_laws.proofs.laws.spelled_is_within.Goals as goal

pub returns : goal.returns
returns c = spelled_within c.scripts_are_within.ensures c.scripts_are_sound.ensures c.media_are_within.ensures
