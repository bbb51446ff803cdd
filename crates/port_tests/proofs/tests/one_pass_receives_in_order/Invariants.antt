use Rattle.port_tests.specs.Passing.{Keeps}
use Rattle.port_tests.proofs.tests.one_pass_receives_in_order.Given as goal

abbrev pub invariant-loop-step : goal.invariant-loop-step
invariant-loop-step g l = Keeps l.port l.initial.pass l.pass

abbrev pub invariant-loop-place : goal.invariant-loop-place
invariant-loop-place g l = Keeps l.port l.initial.pass l.pass
