use Rattle.std.proofs.Common.{◌≡◌, ◌≤◌, ◌++◌, map, length, take}
use Rattle.std.specs.Vec.Iter.{into_iter_items, into_iter_len}
use Rattle.codec_model.specs.Shown.{shown_of}
use Rattle.segmented_list.specs.Segments.{joined}
use Rattle.codec_judge.proofs.shown.first_shown.Given as goal

abbrev pub invariant-loop-segment : goal.invariant-loop-segment
invariant-loop-segment l = record {
  all : take l.most (l.shown.items ++ map shown_of (joined (into_iter_items l.segment-iterator))) ≡ take l.most (map shown_of l.fn.showings);
  few : length l.shown.items ≤ l.most;
  long : into_iter_len l.segment-iterator ≡ length (into_iter_items l.segment-iterator);
}
