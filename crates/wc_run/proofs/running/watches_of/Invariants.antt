use Rattle.std.proofs.Common.{◌≡◌, ◌+◌, ◌++◌, ◌≤◌, length, map, vec_capacity}
use Rattle.std.specs.Vec.Iter.{into_iter_items, into_iter_len}
use Rattle.wc_run.proofs.running.watches_of.Given as goal

-- the first clocks have a gate
abbrev pub invariant-loop-clock : goal.invariant-loop-clock
invariant-loop-clock g l = record {
  long : into_iter_len l.clock-iterator ≡ length (into_iter_items l.clock-iterator);
  many : length l.watches.items + length (into_iter_items l.clock-iterator) ≡ length l.fn.clocks.items;
  tells : map (λ w. g.K.Clock.told w.clock) l.watches.items ++ map g.K.Clock.told (into_iter_items l.clock-iterator) ≡ map g.K.Clock.told l.fn.clocks.items;
  enough : length (into_iter_items l.clock-iterator) ≤ length l.gates.items;
  room : length l.fn.clocks.items ≤ vec_capacity l.watches;
}
