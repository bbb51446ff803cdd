use Rattle.bytes_laws.proofs.Same.{runs_same}
use Rattle.bytes_laws.proofs.laws.bytes_determine_runs.Goals as goal

pub returns : goal.returns
returns c = runs_same c.legal_runs_are_told.ensures.determine c.scripts_are_sound.ensures c.media_have_one_reading.ensures.one c.spelled_is_within.ensures
