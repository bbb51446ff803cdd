use Rattle.std.proofs.Common.{◌∷◌, [], arith}
use Rattle.std.proofs.lemmas.List.{length-append}
use Rattle.report_reader.proofs.{FormLaws.form_shorter, FormLaws.reads_more, FormLaws.form_numbered}
use Rattle.report_reader.proofs.reading.read_forms.Goals as goal

pub loop-rest-smaller : goal.loop-rest-smaller
loop-rest-smaller c = form_shorter c.lines_are_read_again.ensures.sound c.args.script.now c.loop-rest.section c.loop-rest.rest.now c.in-Ok.line c.in-Ok.behind.now c.in-Ok.next c.in-Ok.ensures.ok

pub loop-rest-preserved : goal.loop-rest-preserved
loop-rest-preserved c =
    let rises = form_numbered c.args.script.now c.loop-rest.section c.loop-rest.rest.now c.in-Ok.line c.in-Ok.behind.now c.in-Ok.next c.in-Ok.ensures.ok in
    record {
      reads = rw c.in_ok-push-in-Ok.ensures.items (reads_more _ _ _ _ _ _ _ _ _ c.loop-rest.invariant.reads c.in-Ok.ensures.ok);
      few = rw c.in_ok-push-in-Ok.ensures.items (omega (arith, length-append c.loop-rest.lines.items (c.in-Ok.line ∷ []), rises, c.loop-rest.invariant.few));
    }
