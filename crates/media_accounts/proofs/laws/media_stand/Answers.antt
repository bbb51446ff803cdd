use Rattle.media_accounts.proofs.Standing.{nothing_stands, step_stands, other_stands}
use Rattle.media_accounts.proofs.laws.media_stand.Goals as goal

pub returns-clause-nothing : goal.returns-clause-nothing
returns-clause-nothing c = nothing_stands

pub returns-clause-media : goal.returns-clause-media
returns-clause-media c = step_stands c.references_stay_held.ensures.held c.references_stay_held.ensures.legal

pub returns-clause-others : goal.returns-clause-others
returns-clause-others c = other_stands
