use Rattle.report_reader.proofs.NameLaws.{sound_names}
use Rattle.report_reader.proofs.laws.names_of_sound_scripts.Goals as goal

pub returns : goal.returns
returns c = sound_names
