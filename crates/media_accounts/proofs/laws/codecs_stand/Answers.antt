use Rattle.media_accounts.proofs.Entries.{entry_stands}
use Rattle.media_accounts.proofs.laws.codecs_stand.Goals as goal

pub returns : goal.returns
returns c = entry_stands c.references_are_apart.ensures.live
