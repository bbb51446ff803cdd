use Rattle.port_tests.specs.Passing.{Keeps}
use Rattle.port_tests.proofs.notes.post_many.Given as goal

abbrev pub invariant-loop-step : goal.invariant-loop-step
invariant-loop-step g l = Keeps l.port l.initial.pass l.pass
