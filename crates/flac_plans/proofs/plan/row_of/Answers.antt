use Rattle.std.proofs.Common.{length}
use Rattle.flac_plans.proofs.Rows.{table_length, row_there, row_room}
use Rattle.flac_plans.proofs.plan.row_of.Goals as goal

pub slice_of-requires : goal.slice_of-requires
slice_of-requires c =
    let a = c.args in
    row_room a.width a.parts a.j (length a.sums.now) (table_length a.low a.width a.size a.order a.zs.now a.sums.now a.parts c.requires.sums) c.requires.within

pub returns-clause-value : goal.returns-clause-value
returns-clause-value c =
    let a = c.args in
    row_there a.low a.width a.size a.order a.zs.now a.sums.now c.slice_of.result.now a.parts a.j c.requires.sums c.requires.within c.slice_of.ensures.value
