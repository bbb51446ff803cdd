use Rattle.lock_tests.specs.Marks.{Goes}
use Rattle.lock_tests.proofs.marks.add_marks.Given as goal

abbrev pub invariant-loop-step : goal.invariant-loop-step
invariant-loop-step g l = Goes l.thread l.step l.initial.seat l.seat
