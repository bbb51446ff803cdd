use Rattle.media_variables.proofs.HeldLaws.{caller_there}
use Rattle.media_variables.proofs.callers.CallerMedia.step.Goals as goal

pub caller_step-requires-clause-there : goal.caller_step-requires-clause-there
caller_step-requires-clause-there c = caller_there _ c.self.inside.pool c.self.inside.callers.items c.args.who.caller c.self.view_is c.requires.there
