use Rattle.flac_decode.proofs.FoundLaws.{found}
use Rattle.flac_decode.proofs.end.frames_are_found.Goals as goal

pub returns : goal.returns
returns c = found c.frames_are_spelled.ensures
