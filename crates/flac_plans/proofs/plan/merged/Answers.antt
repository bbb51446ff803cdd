use Rattle.std.proofs.Common.{ℕ, List, ap, sym, ◌∙◌, ◌++◌, ◌*◌}
use Rattle.flac_definitions.specs.Plans.{part_of}
use Rattle.flac_plans.specs.Search.{row}
use Rattle.flac_plans.proofs.Rows.{one_more}
use Rattle.flac_plans.proofs.plan.merged.Goals as goal

pub loop-j-preserved : goal.loop-j-preserved
loop-j-preserved c =
    let a = c.args in
    let f : ℕ → List ℕ = λ (j : ℕ). row a.low a.width (part_of (2 * a.size) a.order a.zs.now j) in
    let n = c.loop-j.j in
    c.in_ok-push_pair.ensures ∙ (ap (λ (l : List ℕ). l ++ f n) c.loop-j.invariant ∙ sym (one_more f n))
