use Rattle.std.proofs.Common.{◌≡◌, None, length}
use Rattle.reclaimer.specs.Picks.{is_wanted}
use Rattle.reclaimer.proofs.LeastLaws.{least_of}
use Rattle.reclaimer.proofs.choice.least.Given as goal

abbrev pub invariant-loop-rest : goal.invariant-loop-rest
invariant-loop-rest l = least_of (is_wanted l.reason l.now) l.best l.rest ≡ least_of (is_wanted l.reason l.now) None l.list

abbrev pub decreases-loop-rest : goal.decreases-loop-rest
decreases-loop-rest l = length l.rest
