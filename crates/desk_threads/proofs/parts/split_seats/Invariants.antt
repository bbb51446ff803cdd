use Rattle.std.proofs.Common.{◌≡◌, ◌≤◌, length, vec_capacity}
use Rattle.desk_threads.proofs.Lists.{FirstSplit}
use Rattle.desk_threads.proofs.SeatSteps.{Split}
use Rattle.desk_threads.proofs.parts.split_seats.Given as goal

-- the seats at the first codecs were split
abbrev pub invariant-loop-codec : goal.invariant-loop-codec
invariant-loop-codec g l = record {
  split : FirstSplit Split l.fn.desk.codecs.items l.fn.seats.codecs.items l.seats.codecs.items l.codecs.items;
  pool : l.seats.pool ≡ l.initial.seats.pool;
  slots : l.seats.slots ≡ l.initial.seats.slots;
  room : vec_capacity l.codecs ≡ vec_capacity l.fn.codecs;
  many : length l.codecs.items ≡ l.codec;
  end : l.codec-end ≡ length l.fn.desk.codecs.items;
  below : l.codec ≤ l.codec-end;
}
