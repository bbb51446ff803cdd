use Rattle.std.proofs.Common.{◌≡◌, List, map, ap, ◌∙◌, rules}
use Rattle.run_model.specs.declared.run.CodecTrace.{CodecTrace}
use Rattle.report_check.specs.Ends.{all_ends}
use Rattle.report_check.proofs.ReplayLaws.{same_report}
use Rattle.report_check.proofs.checking.compare.Goals as goal

pub returns-clause-only : goal.returns-clause-only
returns-clause-only g c legal fits =
    let used : map g.C.Coder.coder c.into_coders.result.items ≡ map g.C.Coder.coder c.args.coders.items = search rules in
    let collected : c.in_ok-ends.ends.items ≡ all_ends 0 (map (λ (t : CodecTrace). t.entries) c.args.run.codecs) = c.in_ok-ends.ensures ∙ ap (λ (ts : List CodecTrace). all_ends 0 (map (λ (t : CodecTrace). t.entries) ts)) c.as_slice.ensures in
    let same : c.in_ok-text.text.items ≡ c.args.report.now =
    same_report c.listed_ends_make_one_run.ensures c.args.script.now c.args.media.now (map g.C.Coder.coder c.args.coders.items) (map g.C.Coder.coder c.into_coders.result.items) c.in_ok-ends.ends.items c.deref.result.now
    c.args.run c.in_ok-again.again c.in_ok-text.text.items c.args.report.now used c.deref.ensures.value collected c.in_ok-again.ensures.made c.in_ok-again.ensures.legal c.in_ok-text.ensures c.requires.text legal fits in
    let seen : c.as_slice-2.result.now ≡ c.args.report.now = c.as_slice-2.ensures.value ∙ same in
    let wrong : ⊥ = search rules in
    absurd wrong
