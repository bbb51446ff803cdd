use Rattle.std.proofs.Common.{ap, sym, ◌∙◌, ◌≡◌, arith, rules, false, true}
use Rattle.flac_definitions.specs.Plans.{finest, fits}
use Rattle.flac_plans.proofs.Rows.{finest_none, finest_here, finest_below}
use Rattle.flac_plans.proofs.plan.finest.Goals as goal

pub loop-p-preserved : goal.loop-p-preserved
loop-p-preserved c =
    let no : fits c.args.block c.args.order c.loop-p.p ≡ false = search rules in
    (omega arith, finest_below c.args.block c.args.order c.loop-p.p c.loop-p-test.true no ∙ c.loop-p.invariant.1)

pub returns-else-not-fits-clause-value : goal.returns-else-not-fits-clause-value
returns-else-not-fits-clause-value c =
    let yes : fits c.args.block c.args.order c.loop-p.p ≡ true = search rules in
    finest_here c.args.block c.args.order c.loop-p.p c.loop-p-test.true yes ∙ c.loop-p.invariant.1

pub returns-after-loop-p-clause-value : goal.returns-after-loop-p-clause-value
returns-after-loop-p-clause-value c =
    let none : c.loop-p.p ≡ 0 = omega arith in
    none ∙ (sym (finest_none c.args.block c.args.order) ∙ (ap (finest c.args.block c.args.order) (sym none) ∙ c.loop-p.invariant.1))
