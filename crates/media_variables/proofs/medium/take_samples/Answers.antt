use Rattle.media_variables.proofs.Made.{samples_taken}
use Rattle.media_variables.proofs.medium.take_samples.Goals as goal

pub returns-clause-ok : goal.returns-clause-ok
returns-clause-ok g c = samples_taken _ _ c.args.who c.args.answer c.args.samples c.in_ok-audio.audio c.in_ok-audio.ensures.ok
