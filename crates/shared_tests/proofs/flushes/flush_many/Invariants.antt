use Rattle.shared_tests.specs.Resting.{Rests}
use Rattle.shared_tests.proofs.flushes.flush_many.Given as goal

abbrev pub invariant-loop-step : goal.invariant-loop-step
invariant-loop-step g l = Rests l.initial.seat l.seat
