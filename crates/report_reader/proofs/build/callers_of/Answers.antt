use Rattle.std.proofs.Common.{◌≡◌, suc, ◌+◌, ◌-◌, refl, ◌∙◌, arith, append_assoc}
use Rattle.report_reader.proofs.build.callers_of.Goals as goal

pub loop-preserved : goal.loop-preserved
loop-preserved c =
    let count : c.args.count - c.loop.counter ≡ suc (c.args.count - (c.loop.counter + 1)) = omega arith in
    rw (c.in_ok-push.ensures, c.of.ensures, c.in_ok-results.ensures.results, c.in_ok-results.ensures.behind, c.behind_first.ensures) (rw count at c.loop.invariant ∙ rw append_assoc refl)
