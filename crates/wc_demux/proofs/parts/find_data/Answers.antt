use Rattle.std.proofs.Common.{◌+◌, length, sym, ap, ◌∙◌, Ok}
use Rattle.wc_demux.specs.Wav.{data_in, parts_from}
use Rattle.wc_demux.proofs.WavLaws.{data_cut, data_here, data_next}
use Rattle.wc_demux.proofs.parts.find_data.Goals as goal

pub returns-then-part-lt8-clause-fault : goal.returns-then-part-lt8-clause-fault
returns-then-part-lt8-clause-fault c =
    c.loop-at.invariant ∙ data_cut c.args.bytes.now c.loop-at.at c.loop-at-test.true (rw c.tail-part.ensures at c.if-part-lt8.true)

pub returns-then-has_id-clause-found : goal.returns-then-has_id-clause-found
returns-then-has_id-clause-found c =
    let e = c.tail-part.ensures in
    let is = rw (c.as_slice.ensures, e) at (sym c.has_id.ensures ∙ c.if-has_id.true) in
    c.loop-at.invariant ∙ data_here c.args.bytes.now c.loop-at.at c.loop-at-test.true (rw e at c.if-part-lt8.false) is ∙ ap Ok (sym (rw e at c.content.ensures.bytes))

pub loop-at-preserved : goal.loop-at-preserved
loop-at-preserved c =
    let bytes = c.args.bytes.now in
    let at = c.loop-at.at in
    let e = c.tail-part.ensures in
    let not = rw (c.as_slice.ensures, e) at (sym c.has_id.ensures ∙ c.if-has_id.false) in
    c.loop-at.invariant ∙ data_next bytes at c.loop-at-test.true (rw e at c.if-part-lt8.false) not
    ∙ ap (λ k. data_in (length bytes) (parts_from bytes (at + k))) (sym (rw e at c.whole_size-at.ensures.size))
