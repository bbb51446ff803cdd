use Rattle.media_variables.proofs.HeldLaws.{caller_there}
use Rattle.media_variables.proofs.callers.CallerMedia.take.Goals as goal

pub caller_take-requires-clause-there : goal.caller_take-requires-clause-there
caller_take-requires-clause-there c = caller_there _ c.self.inside.pool c.self.inside.callers.items c.args.who.caller c.self.view_is c.requires.there
