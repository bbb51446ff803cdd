use Rattle.std.proofs.Common.{arith}
use Rattle.picture_planes.specs.Planes.{across, down, sample_size, row_of}
use Rattle.wc_video.specs.Layouts.{layout_of}
use Rattle.wc_video.proofs.PlanLaws.{there_at, begins_there, there_so, part_same}
use Rattle.wc_video.proofs.planning.plane_copy.Goals as goal

pub overflow_add-result : goal.overflow_add-result
overflow_add-result c =
    let first = begins_there c.args.at c.args.shape.now c.args.r.now c.args.p (layout_of c.args.to) c.requires.inside c.requires.plane in
    let above = part_same c.row_bytes-step.result (row_of c.args.p c.args.shape.now.width) c.args.r.now.y c.down.result (down c.args.p) c.row_bytes-step.ensures.value c.down.ensures.value in
    omega (arith, first, above, c.requires.room)

pub overflow_add-result-2 : goal.overflow_add-result-2
overflow_add-result-2 c =
    let first = begins_there c.args.at c.args.shape.now c.args.r.now c.args.p (layout_of c.args.to) c.requires.inside c.requires.plane in
    let above = part_same c.row_bytes-step.result (row_of c.args.p c.args.shape.now.width) c.args.r.now.y c.down.result (down c.args.p) c.row_bytes-step.ensures.value c.down.ensures.value in
    let before = part_same c.sample_size.result (sample_size c.args.p) c.args.r.now.x c.across.result (across c.args.p) c.sample_size.ensures.value c.across.ensures.value in
    omega (arith, first, above, before, c.requires.room)

pub returns-clause-there : goal.returns-clause-there
returns-clause-there c =
    let there = there_at c.args.at c.args.shape.now c.args.r.now c.args.p (layout_of c.args.to) c.requires.inside c.requires.plane in
    let above = part_same c.row_bytes-step.result (row_of c.args.p c.args.shape.now.width) c.args.r.now.y c.down.result (down c.args.p) c.row_bytes-step.ensures.value c.down.ensures.value in
    let before = part_same c.sample_size.result (sample_size c.args.p) c.args.r.now.x c.across.result (across c.args.p) c.sample_size.ensures.value c.across.ensures.value in
    there_so _ _ c.in_ok-layout.layout _ c.row_bytes-step.result c.row_bytes-row.result c.rows-rows.result there (omega (arith, above, before)) c.row_bytes-step.ensures.value c.row_bytes-row.ensures.value c.rows-rows.ensures.value
