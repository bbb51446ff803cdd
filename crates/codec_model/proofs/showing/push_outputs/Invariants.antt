use Rattle.std.proofs.Common.{◌≡◌, ◌++◌, length}
use Rattle.std.specs.Vec.Iter.{into_iter_items, into_iter_len}
use Rattle.codec_model.specs.Shown.{outputs_from}
use Rattle.codec_model.proofs.showing.push_outputs.Given as goal

abbrev pub invariant-loop-unit : goal.invariant-loop-unit
invariant-loop-unit l = record {
  all : l.events.items ++ outputs_from l.number (into_iter_items l.unit-iterator) ≡ l.initial.events.items ++ outputs_from l.initial.number l.fn.units;
  long : into_iter_len l.unit-iterator ≡ length (into_iter_items l.unit-iterator);
}
