use Rattle.std.proofs.Common.{sym, ◌∙◌, inl, inr}
use Rattle.report_reader.proofs.DifferenceLaws.{differs_at_end}
use Rattle.report_reader.proofs.compare.difference.Goals as goal
use Rattle.report_reader.proofs.compare.difference.Goals.{then-loop-i-test+else-i-b, else-loop-i-test}

pub returns-else-a-b : goal.returns-else-a-b
returns-else-a-b c =
    let kept = c.loop-i.invariant in
    elim c.loop-i-test.branch [
      | then-loop-i-test+else-i-b w ↦ sym (kept.so_far ∙ differs_at_end c.loop-i.line c.loop-i.i c.args.a.now c.args.b.now kept.within_a kept.within_b c.if-a-b.false (inr w.if-i-b.false))
      | else-loop-i-test w ↦ sym (kept.so_far ∙ differs_at_end c.loop-i.line c.loop-i.i c.args.a.now c.args.b.now kept.within_a kept.within_b c.if-a-b.false (inl w.loop-i-test.false))
    ]
