use Rattle.flac_description.proofs.Reading.{spelled_is_read}
use Rattle.flac_description.proofs.Spelling.{read_is_spelled}
use Rattle.flac_description.proofs.laws.descriptions_are_spelled.Goals as goal

pub returns : goal.returns
returns c = record { read = spelled_is_read; spelled = read_is_spelled }
