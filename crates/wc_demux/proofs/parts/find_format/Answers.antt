use Rattle.std.proofs.Common.{◌+◌, Ok, length, drop, sym, ap, ◌∙◌}
use Rattle.wc_demux.specs.Wav.{format_in, parts_from, whole_size, with_rest}
use Rattle.wc_demux.proofs.WavLaws.{format_cut, format_here, format_next}
use Rattle.wc_demux.proofs.parts.find_format.Goals as goal

pub returns-then-part-lt8-clause-fault : goal.returns-then-part-lt8-clause-fault
returns-then-part-lt8-clause-fault c =
    c.loop-at.invariant ∙ format_cut c.args.bytes.now c.loop-at.at c.loop-at-test.true (rw c.tail-part.ensures at c.if-part-lt8.true)

pub returns-in-Ok-clause-found : goal.returns-in-Ok-clause-found
returns-in-Ok-clause-found c =
    let bytes = c.args.bytes.now in
    let at = c.loop-at.at in
    let e = c.tail-part.ensures in
    let is = rw (c.as_slice.ensures, e) at (sym c.has_id.ensures ∙ c.if-has_id.true) in
    let behind = rw e at c.whole_size.ensures.size in
    c.loop-at.invariant ∙ format_here bytes at c.loop-at-test.true (rw e at c.if-part-lt8.false) is
    ∙ ap (with_rest (parts_from bytes (at + whole_size (drop at bytes)))) (sym (rw e at c.in-Ok.ensures.format))
    ∙ ap (λ k. Ok (c.in-Ok.format, parts_from bytes (at + k))) (sym behind)

pub loop-at-preserved : goal.loop-at-preserved
loop-at-preserved c =
    let bytes = c.args.bytes.now in
    let at = c.loop-at.at in
    let e = c.tail-part.ensures in
    let not = rw (c.as_slice.ensures, e) at (sym c.has_id.ensures ∙ c.if-has_id.false) in
    let other = rw (c.as_slice-in-loop-at.ensures, e) at (sym c.has_id-in-loop-at.ensures ∙ c.if-has_id-2.false) in
    c.loop-at.invariant ∙ format_next bytes at c.loop-at-test.true (rw e at c.if-part-lt8.false) not other
    ∙ ap (λ k. format_in (length bytes) (parts_from bytes (at + k))) (sym (rw e at c.whole_size-at.ensures.size))
