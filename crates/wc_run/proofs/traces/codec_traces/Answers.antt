use Rattle.std.proofs.Common.{sym, ◌∙◌, append-nil}
use Rattle.std.proofs.lemmas.List.{nil_from_length}
use Rattle.std.specs.Vec.Iter.{into_iter_items}
use Rattle.wc_run.proofs.traces.codec_traces.Goals as goal

pub returns : goal.returns
returns g c =
    let at = c.loop-codec in
    sym (append-nil at.traces.items) ∙ (rw (nil_from_length (into_iter_items at.codec-iterator) (sym at.invariant.long ∙ c.in-None.ensures.steps.0)) at at.invariant.all)
