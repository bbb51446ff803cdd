use Rattle.std.proofs.Common.{◌≡◌, ◌≤◌, ◌++◌, map, length, take}
use Rattle.std.specs.Vec.Iter.{into_iter_items, into_iter_len}
use Rattle.codec_model.specs.Shown.{shown_of}
use Rattle.codec_judge.proofs.shown.push_shown.Given as goal

abbrev pub invariant-loop-showing : goal.invariant-loop-showing
invariant-loop-showing l = record {
  all : take l.most (l.shown.items ++ map shown_of (into_iter_items l.showing-iterator)) ≡ take l.most (l.initial.shown.items ++ map shown_of l.fn.showings.items);
  few : length l.shown.items ≤ l.most;
  long : into_iter_len l.showing-iterator ≡ length (into_iter_items l.showing-iterator);
}
