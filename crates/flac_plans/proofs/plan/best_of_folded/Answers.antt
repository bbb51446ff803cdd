use Rattle.std.proofs.Common.{ℕ, ap, subst, ◌∙◌}
use Rattle.std.specs.Result.{IfOk}
use Rattle.flac_definitions.specs.Plans.{best_partition, IsPlan}
use Rattle.flac_plans.specs.FitLaws.{partition_cut}
use Rattle.flac_plans.proofs.plan.best_of_folded.Goals as goal

pub returns-clause-plan : goal.returns-clause-plan
returns-clause-plan c =
    let a = c.args in
    subst (λ (p : ℕ). IfOk c.searched.result (IsPlan a.block a.order a.zs.now p))
    (ap (λ (m : ℕ). best_partition a.block a.order m a.zs.now) c.min.ensures ∙ partition_cut a.block a.order a.max_partition a.zs.now c.requires.block)
    c.searched.ensures.plan
