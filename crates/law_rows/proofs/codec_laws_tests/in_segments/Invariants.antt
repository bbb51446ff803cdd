use Rattle.std.proofs.Common.{◌≡◌, ◌++◌, length}
use Rattle.std.specs.Vec.Iter.{into_iter_items, into_iter_len}
use Rattle.law_rows.proofs.codec_laws_tests.in_segments.Given as goal

abbrev pub invariant-loop-entry : goal.invariant-loop-entry
invariant-loop-entry l = record {
  all : l.list.items ++ into_iter_items l.entry-iterator ≡ l.fn.entries.items;
  long : into_iter_len l.entry-iterator ≡ length (into_iter_items l.entry-iterator);
}
