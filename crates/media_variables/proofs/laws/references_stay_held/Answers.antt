use Rattle.media_variables.proofs.HeldLaws.{stays_held}
use Rattle.media_variables.proofs.LegalLaws.{does_legally}
use Rattle.media_variables.proofs.laws.references_stay_held.Goals as goal

pub returns-clause-held : goal.returns-clause-held
returns-clause-held c = stays_held c.references_are_apart.ensures.live

pub returns-clause-legal : goal.returns-clause-legal
returns-clause-legal c = does_legally c.references_are_apart.ensures.live
