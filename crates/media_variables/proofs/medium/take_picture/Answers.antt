use Rattle.media_variables.proofs.Made.{picture_taken}
use Rattle.media_variables.proofs.medium.take_picture.Goals as goal

pub returns-clause-ok : goal.returns-clause-ok
returns-clause-ok g c = picture_taken _ _ c.args.who c.args.answer c.args.picture c.in_ok-frame.frame c.in_ok-frame.ensures.ok
