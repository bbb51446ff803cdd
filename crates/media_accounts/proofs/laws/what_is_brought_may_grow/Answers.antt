use Rattle.media_accounts.proofs.Standing.{later_stand}
use Rattle.media_accounts.proofs.laws.what_is_brought_may_grow.Goals as goal

pub returns : goal.returns
returns c = later_stand
