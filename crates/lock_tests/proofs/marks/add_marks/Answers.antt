use Rattle.std.proofs.Common.{rules, ◌≡◌, ℕ, ◌∙◌, subst, arith}
use Rattle.lock_tests.specs.Marks.{Goes}
use Rattle.lock_tests.proofs.Steps.{goes_from, goes_on}
use Rattle.lock_tests.proofs.marks.add_marks.Goals as goal

pub loop-step-init : goal.loop-step-init
loop-step-init g c = goes_from c.args.thread c.args.seat (search rules)

pub add_mark-requires : goal.add_mark-requires
add_mark-requires g c = let i = c.loop-step.invariant.idle in (i.0 ∙ c.requires.0, i.1)

pub loop-step-preserved : goal.loop-step-preserved
loop-step-preserved g c = goes_on c.args.thread c.loop-step.step _ _ _ c.add_mark.result c.add_mark.ensures.same.0 c.add_mark.ensures.passage c.loop-step.invariant

pub returns : goal.returns
returns g c =
    let end = c.loop-step.auto.step-end in
    let e : c.loop-step.step ≡ c.args.count = omega arith in
    subst (λ (n : ℕ). Goes c.args.thread n c.args.seat c.loop-step.seat) e c.loop-step.invariant
