use Rattle.std.proofs.Common.{◌≡◌, ◌++◌, map, length}
use Rattle.std.specs.Vec.Iter.{into_iter_items, into_iter_len}
use Rattle.codec_model.specs.Shown.{shown_of}
use Rattle.wc_run.proofs.traces.push_shown.Given as goal

abbrev pub invariant-loop-showing : goal.invariant-loop-showing
invariant-loop-showing l = record {
  all : l.shown.items ++ map shown_of (into_iter_items l.showing-iterator) ≡ l.initial.shown.items ++ map shown_of l.fn.showings.items;
  long : into_iter_len l.showing-iterator ≡ length (into_iter_items l.showing-iterator);
}
