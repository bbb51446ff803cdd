use Rattle.port_speed.specs.Passing.{Keeps}
use Rattle.port_speed.proofs.receive_all.Given as goal

abbrev pub invariant-loop : goal.invariant-loop
invariant-loop g l = Keeps l.port l.initial.pass l.pass
