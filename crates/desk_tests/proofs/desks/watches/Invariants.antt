use Rattle.std.proofs.Common.{◌≡◌, ◌≤◌, length, vec_capacity}
use Rattle.desk_tests.proofs.desks.watches.Given as goal

abbrev pub invariant-loop : goal.invariant-loop
invariant-loop l = record {
  many : length l.watches.items ≡ l.counter;
  below : l.counter ≤ l.count;
  room : l.count ≤ vec_capacity l.watches;
}
