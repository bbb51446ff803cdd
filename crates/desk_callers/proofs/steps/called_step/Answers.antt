use Rattle.desk_callers.proofs.Asked.{asked_may, stay_called, did_called}
use Rattle.media_variables.specs.Held.{seen_in}
use Rattle.desk_callers.proofs.steps.called_step.Goals as goal

pub call_codec-requires-clause-may : goal.call_codec-requires-clause-may
call_codec-requires-clause-may g c κs within = asked_may c.args.script.now c.args.media.now (seen_in c.args.variables.now) c.args.who.caller c.args.call c.args.asked.now c.requires.plain c.requires.arguments

pub returns-clause-stay : goal.returns-clause-stay
returns-clause-stay g c = stay_called c.args.desk.now c.args.who c.args.codec c.args.call c.args.seats.now c.call_codec.new.seats c.call_codec.result c.call_codec.ensures.called c.call_codec.ensures.err

pub returns-clause-did : goal.returns-clause-did
returns-clause-did g c =
    did_called c.args.script.now c.args.media.now c.args.desk.now c.args.results.now c.args.seats.now c.call_codec.new.seats (seen_in c.args.variables.now) c.args.who c.args.asked.now c.args.codec c.args.call c.call_codec.result
    c.requires.codec c.requires.opened c.call_codec.ensures.called c.requires.plain c.requires.called c.requires.arguments
