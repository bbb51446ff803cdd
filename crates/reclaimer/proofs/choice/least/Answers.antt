use Rattle.reclaimer.specs.Picks.{is_wanted}
use Rattle.reclaimer.proofs.LeastLaws.{found_none, found_some}
use Rattle.reclaimer.proofs.choice.least.Goals as goal

pub returns-clause-none : goal.returns-clause-none
returns-clause-none c = found_none (is_wanted c.args.reason c.args.now) c.args.list.now c.loop-rest.rest.now c.loop-rest.best c.in_default.len_below c.loop-rest.invariant

pub returns-clause-some : goal.returns-clause-some
returns-clause-some c = found_some (is_wanted c.args.reason c.args.now) c.args.list.now c.loop-rest.rest.now c.loop-rest.best c.in_default.len_below c.loop-rest.invariant
