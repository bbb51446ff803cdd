use Rattle.media_variables.proofs.HeldLaws.{seen_back}
use Rattle.media_variables.proofs.Places.{seen_read}
use Rattle.media_variables.proofs.PortLaws.{receive_err, receive_ok}
use Rattle.report_text.specs.declared.result.StepResult.TheVariants as result
use Rattle.media_variables.proofs.callers.caller_receive.Goals as goal

pub returns-clause-came : goal.returns-clause-came
returns-clause-came c =
    let all = c.args.callers.now.items in
    let k = c.args.who.caller in
    let vs = c.in-Some.variables.now in
    let read = seen_read k all vs c.requires c.in-Some.ensures.value in
    receive_ok c.receive.result (result.From c.args.poster) k c.args.who.step c.args.medium all vs c.receive.new.self read c.receive.ensures.ok c.receive.ensures.variables

pub returns-clause-err : goal.returns-clause-err
returns-clause-err c =
    let all = c.args.callers.now.items in
    let k = c.args.who.caller in
    let vs = c.in-Some.variables.now in
    let read = seen_read k all vs c.requires c.in-Some.ensures.value in
    seen_back c.receive.result k all vs c.receive.new.self read (receive_err c.receive.result vs c.receive.new.self c.receive.ensures.err)
