use Rattle.shared_pool.proofs.Live.{live_ref}
use Rattle.shared_pool.proofs.laws.live_claims_are_live_references.Goals as goal

pub returns : goal.returns
returns c = live_ref c.references_are_apart.ensures.made
