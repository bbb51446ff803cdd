use Rattle.std.proofs.Common.{ℕ, List, ap, ◌∙◌, ◌++◌, ◌*◌, ◌≡◌, subst, length}
use Rattle.std.specs.Result.{OnOk}
use Rattle.flac_definitions.specs.Plans.{part_of}
use Rattle.flac_plans.specs.Search.{row}
use Rattle.flac_plans.proofs.Rows.{table_joined}
use Rattle.flac_plans.proofs.plan.push_pair.Goals as goal

pub returns : goal.returns
returns c =
    let a = c.args in
    let left = c.part-left.result.now in
    let right = c.part-right.result.now in
    let same : row a.low (length c.row_of-left_sums.result.now) (left ++ right) ≡ row a.low a.width (part_of (2 * a.size) a.order a.zs.now a.j) =
    ap (λ (w : ℕ). row a.low w (left ++ right)) c.row_of-left_sums.ensures.count ∙ table_joined a.low a.width a.size a.order a.zs.now a.j left right c.part-left.ensures.value c.part-right.ensures.value in
    subst (λ (l : List ℕ). OnOk c.push_joined.result (c.push_joined.new.out.items ≡ c.args.out.now.items ++ l)) same c.push_joined.ensures
