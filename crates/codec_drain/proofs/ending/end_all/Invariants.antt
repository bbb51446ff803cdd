use Rattle.std.proofs.Common.{◌≡◌, length}
use Rattle.std.specs.Vec.Iter.{into_iter_items, into_iter_len}
use Rattle.codec_drain.proofs.DrainLaws.{Ending}
use Rattle.codec_drain.proofs.ending.end_all.Given as goal

abbrev pub invariant-loop-r : goal.invariant-loop-r
invariant-loop-r l = record {
  long : into_iter_len l.r-iterator ≡ length (into_iter_items l.r-iterator);
  ending : Ending l.codec l.fn.media.items (into_iter_items l.r-iterator) l.fn.pool l.pool;
}
