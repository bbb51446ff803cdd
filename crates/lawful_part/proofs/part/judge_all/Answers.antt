use Rattle.std.proofs.Common.{ap, ◌∙◌}
use Rattle.codec_judge.specs.Lender.{LenderValue}
use Rattle.lawful_part.proofs.Traces.{item_at, opens, trace_more}
use Rattle.lawful_part.proofs.part.judge_all.Goals as goal

pub judge_at-requires-clause-low : goal.judge_at-requires-clause-low
judge_at-requires-clause-low g c κs within =
    let at = item_at c.args.script.now.codecs c.as_slice-item-items.result.now c.loop-place.place c.item-item.result c.as_slice-item-items.ensures c.loop-place-test.true c.item-item.is in
    (opens c.args.script.now c.loop-place.place c.item-item.result c.requires.sound at).0

pub judge_at-requires-clause-high : goal.judge_at-requires-clause-high
judge_at-requires-clause-high g c κs within =
    let at = item_at c.args.script.now.codecs c.as_slice-item-items.result.now c.loop-place.place c.item-item.result c.as_slice-item-items.ensures c.loop-place-test.true c.item-item.is in
    (opens c.args.script.now c.loop-place.place c.item-item.result c.requires.sound at).1

pub loop-place-preserved : goal.loop-place-preserved
loop-place-preserved g c =
    let at = item_at c.args.script.now.codecs c.as_slice-item-items.result.now c.loop-place.place c.item-item.result c.as_slice-item-items.ensures c.loop-place-test.true c.item-item.is in
    let kept = c.loop-place.invariant in
    record {
      judged = trace_more c.args.lender.now.home c.loop-place.lender.home c.args.script.now.codecs c.args.traces.now.items c.loop-place.traces.items c.judge_at.new.traces.items c.loop-place.place c.item-item.result at (ap (λ (l : LenderValue). l.home) kept.same) kept.judged c.in_ok-judge_at.ensures.judged;
      same = c.in_ok-judge_at.ensures.same ∙ kept.same;
    }
