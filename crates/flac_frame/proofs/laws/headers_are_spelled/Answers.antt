use Rattle.flac_frame.specs.WholeHeaderLaws.{header_sound, header_whole}
use Rattle.flac_frame.proofs.laws.headers_are_spelled.Goals as goal

pub returns : goal.returns
returns c = record { sound = λ info bytes q h e. header_sound info bytes q h e; whole = λ info bytes h bits i b. header_whole info bytes h bits i b }
