use Rattle.std.proofs.Common.{◌≡◌, ◌++◌, map, length}
use Rattle.std.specs.Vec.Iter.{into_iter_items, into_iter_len}
use Rattle.codec_model.specs.Shown.{shown_of}
use Rattle.segmented_list.specs.Segments.{joined}
use Rattle.wc_run.proofs.traces.all_shown.Given as goal

abbrev pub invariant-loop-segment : goal.invariant-loop-segment
invariant-loop-segment l = record {
  all : l.shown.items ++ map shown_of (joined (into_iter_items l.segment-iterator)) ≡ map shown_of l.fn.showings;
  long : into_iter_len l.segment-iterator ≡ length (into_iter_items l.segment-iterator);
}
