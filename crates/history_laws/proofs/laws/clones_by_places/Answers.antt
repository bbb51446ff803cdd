use Rattle.history_laws.proofs.CloneLaws.{clones_told}
use Rattle.history_laws.proofs.laws.clones_by_places.Goals as goal

pub returns : goal.returns
returns c = clones_told c.references_are_held.ensures.all c.references_are_held.ensures.apart
