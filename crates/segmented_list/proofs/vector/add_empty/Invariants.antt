use Rattle.std.proofs.Common.{◌≡◌, ◌+◌}
use Rattle.std.specs.Prelude.{vec_len}
use Rattle.std.specs.List.{AllByRecursion}
use Rattle.segmented_list.specs.Segments.{IsEmpty}
use Rattle.segmented_list.proofs.vector.add_empty.Given as goal

abbrev pub invariant-loop : goal.invariant-loop
invariant-loop g l = record {
  len : vec_len l.spare ≡ vec_len l.initial.spare + l.counter;
  empty : AllByRecursion IsEmpty l.spare.items;
}
