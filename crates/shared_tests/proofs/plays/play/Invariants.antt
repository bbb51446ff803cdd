use Rattle.shared_pool.specs.Refs.{IsPoolRef}
use Rattle.shared_tests.specs.Resting.{AreKept}
use Rattle.shared_tests.proofs.plays.play.Given as goal

abbrev pub invariant-loop-step : goal.invariant-loop-step
invariant-loop-step g l = AreKept l.first l.second l.slots l.pool l.initial.seats l.seats × IsPoolRef l.pool l.medium.reference
