use Rattle.lock_speed.specs.Passing.{Rests}
use Rattle.lock_speed.proofs.make_passes.Given as goal

abbrev pub invariant-loop : goal.invariant-loop
invariant-loop g l = Rests l.initial.seat l.seat
