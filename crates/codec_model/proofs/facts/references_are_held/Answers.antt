use Rattle.codec_model.proofs.HeldLaws.{held_stays, held_moves}
use Rattle.codec_model.proofs.facts.references_are_held.Goals as goal

pub returns : goal.returns
returns c = record { all = held_stays; apart = held_moves }
