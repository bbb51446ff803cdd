use Rattle.std.proofs.Common.{◌≡◌, ◌≤◌, length}
use Rattle.desk_tests.specs.Kept.{IsKept}
use Rattle.desk_tests.proofs.desks.call_each.Given as goal

abbrev pub invariant-loop-codec : goal.invariant-loop-codec
invariant-loop-codec g l = record {
  kept : IsKept l.fn.desk l.fn.seats l.seats;
  end : l.codec-end ≡ length l.fn.desk.codecs.items;
  below : l.codec ≤ l.codec-end;
}
