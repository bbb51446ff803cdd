use Rattle.std.proofs.Common.{◌≡◌, ◌^◌, ◌≤◌, length, vec_capacity}
use Rattle.desk_callers.specs.Passes.{ArePasses, AreUnused}
use Rattle.wc_run.specs.Ports.{PassesHave}
use Rattle.wc_run.proofs.ports.open_ports.Given as goal

-- the first ports were opened
abbrev pub invariant-loop : goal.invariant-loop
invariant-loop l = record {
  passes : ArePasses l.fn.pool l.ports.items l.passes.items;
  parts : PassesHave (2 ^ 32) l.passes.items;
  unused : AreUnused l.passes.items;
  many : length l.ports.items ≡ l.counter;
  below : l.counter ≤ l.count;
  room : vec_capacity l.ports ≡ vec_capacity l.fn.ports;
  places : vec_capacity l.passes ≡ vec_capacity l.fn.passes;
}
