use Rattle.shared_speed.specs.Seating.{AreKept}
use Rattle.shared_speed.proofs.shared.decode_many.Given as goal

abbrev pub invariant-loop-moment : goal.invariant-loop-moment
invariant-loop-moment g l = AreKept l.desk l.initial.seats l.seats
