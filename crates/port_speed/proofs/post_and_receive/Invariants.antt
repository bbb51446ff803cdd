use Rattle.port_speed.specs.Passing.{Keeps}
use Rattle.port_speed.proofs.post_and_receive.Given as goal

abbrev pub invariant-loop-step : goal.invariant-loop-step
invariant-loop-step g l = Keeps l.port l.initial.pass l.pass
