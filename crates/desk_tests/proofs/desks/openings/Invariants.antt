use Rattle.std.proofs.Common.{◌≡◌, ◌≤◌, length, vec_capacity}
use Rattle.desk_run.specs.Opened.{MayOpen}
use Rattle.desk_tests.proofs.desks.openings.Given as goal

abbrev pub invariant-loop : goal.invariant-loop
invariant-loop l = record {
  may : MayOpen l.openings.items;
  many : length l.openings.items ≡ l.counter;
  below : l.counter ≤ l.count;
  room : l.count ≤ vec_capacity l.openings;
}
