use Rattle.std.proofs.Common.{◌≡◌, ◌++◌, map, length}
use Rattle.std.specs.Vec.Iter.{into_iter_items, into_iter_len}
use Rattle.wc_replay.specs.Player.{trace_of}
use Rattle.wc_replay.proofs.playing.codec_traces.Given as goal

abbrev pub invariant-loop-desk : goal.invariant-loop-desk
invariant-loop-desk g l = record {
  all : l.traces.items ++ map trace_of (into_iter_items l.desk-iterator) ≡ map trace_of l.fn.desks.items;
  long : into_iter_len l.desk-iterator ≡ length (into_iter_items l.desk-iterator);
}
