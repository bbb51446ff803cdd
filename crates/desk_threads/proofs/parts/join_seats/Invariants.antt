use Rattle.std.proofs.Common.{◌≡◌, length}
use Rattle.desk_threads.proofs.Lists.{LastJoined}
use Rattle.desk_threads.proofs.SeatSteps.{Join}
use Rattle.desk_threads.proofs.parts.join_seats.Given as goal

-- the seats at the last codecs were joined
abbrev pub invariant-loop-seat : goal.invariant-loop-seat
invariant-loop-seat g l = record {
  joined : LastJoined Join l.fn.desk.codecs.items l.fn.seats.codecs.items l.fn.other.codecs.items l.seats.codecs.items l.codecs.items;
  pool : l.seats.pool ≡ l.initial.seats.pool;
  slots : l.seats.slots ≡ l.initial.seats.slots;
}

abbrev pub decreases-loop-seat : goal.decreases-loop-seat
decreases-loop-seat g l = length l.codecs.items
