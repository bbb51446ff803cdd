use Rattle.port_tests.specs.Passing.{Keeps}
use Rattle.port_tests.proofs.notes.receive_many.Given as goal

abbrev pub invariant-loop : goal.invariant-loop
invariant-loop g l = Keeps l.port l.initial.pass l.pass
