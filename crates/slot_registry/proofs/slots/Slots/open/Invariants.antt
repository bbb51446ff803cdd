use Rattle.std.proofs.Common.{◌≡◌, ◌≤◌, ◌+◌, ◌++◌, map, length, vec_len, vec_capacity, count_by}
use Rattle.std.specs.Vec.Iter.{into_iter_items, into_iter_len}
use Rattle.slot_registry.specs.Places.{ids_of, is_away}
use Rattle.slot_registry.proofs.slots.Slots.open.Given as goal

abbrev pub invariant-loop-coder : goal.invariant-loop-coder
invariant-loop-coder g l = record {
  ids : ids_of l.places.items ++ map g.C.Coder.coder (into_iter_items l.coder-iterator) ≡ map g.C.Coder.coder l.fn.coders.items;
  long : into_iter_len l.coder-iterator ≡ length (into_iter_items l.coder-iterator);
  home : count_by is_away l.places.items ≡ 0;
  room : vec_len l.places + length (into_iter_items l.coder-iterator) ≤ vec_capacity l.places;
}
