use Rattle.std.proofs.Common.{ℕ, List, ap, sym, ◌∙◌, ◌++◌}
use Rattle.flac_definitions.specs.Plans.{part_of}
use Rattle.flac_plans.specs.Search.{row, table}
use Rattle.flac_plans.proofs.Rows.{one_more}
use Rattle.flac_plans.proofs.plan.table.Goals as goal

pub loop-j-preserved : goal.loop-j-preserved
loop-j-preserved c =
    let a = c.args in
    let f : ℕ → List ℕ = λ (j : ℕ). row a.low a.width (part_of a.size a.order a.zs.now j) in
    let n = c.loop-j.j in
    c.in_ok-push_row.ensures ∙ (ap (λ (l : List ℕ). l ++ row a.low a.width c.part.result.now) c.loop-j.invariant ∙ (ap (λ (l : List ℕ). table a.low a.width a.size a.order a.zs.now n ++ row a.low a.width l) c.part.ensures.value ∙ sym (one_more f n)))
