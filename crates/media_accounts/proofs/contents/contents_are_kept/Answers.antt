use Rattle.media_accounts.proofs.ContentLaws.{media_are_kept, chunks_are_given}
use Rattle.media_accounts.proofs.contents.contents_are_kept.Goals as goal

pub returns-clause-media : goal.returns-clause-media
returns-clause-media c = media_are_kept

pub returns-clause-chunks : goal.returns-clause-chunks
returns-clause-chunks c = chunks_are_given
