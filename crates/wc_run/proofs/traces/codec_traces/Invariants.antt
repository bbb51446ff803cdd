use Rattle.std.proofs.Common.{◌≡◌, ◌++◌, map, length}
use Rattle.std.specs.Vec.Iter.{into_iter_items, into_iter_len}
use Rattle.wc_run.specs.Traces.{trace_of}
use Rattle.wc_run.proofs.traces.codec_traces.Given as goal

abbrev pub invariant-loop-codec : goal.invariant-loop-codec
invariant-loop-codec g l = record {
  all : l.traces.items ++ map trace_of (into_iter_items l.codec-iterator) ≡ map trace_of l.fn.codecs.items;
  long : into_iter_len l.codec-iterator ≡ length (into_iter_items l.codec-iterator);
}
