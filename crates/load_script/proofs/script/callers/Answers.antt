use Rattle.load_script.proofs.Loops.{four_callers}
use Rattle.load_script.proofs.script.callers.Goals as goal

pub returns : goal.returns
returns c =
    four_callers c.args.count c.args.start c.caller.new.draws.state c.caller-2.new.draws.state c.caller-3.new.draws.state c.in_ok-first.first c.in_ok-second.second c.in_ok-third.third c.in_ok-fourth.fourth
    c.in_ok-callers.callers.items c.try_push.new.items.items c.try_push-2.new.items.items c.try_push-3.new.items.items c.try_push-4.new.items.items
    c.in_ok-first.ensures.caller c.in_ok-second.ensures.caller c.in_ok-third.ensures.caller c.in_ok-fourth.ensures.caller
    c.in_ok-first.ensures.state c.in_ok-second.ensures.state c.in_ok-third.ensures.state
    c.in_ok-callers.ensures.items c.in_ok-try_push.ensures.ok c.in_ok-try_push-2.ensures.ok c.in_ok-try_push-3.ensures.ok c.in_ok-try_push-4.ensures.ok
