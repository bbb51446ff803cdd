use Rattle.desk_tests.specs.Kept.{IsKept}
use Rattle.desk_tests.proofs.desks.call_all.Given as goal

abbrev pub invariant-loop-step : goal.invariant-loop-step
invariant-loop-step g l = record {
  kept : IsKept l.fn.desk l.fn.seats l.seats;
}
