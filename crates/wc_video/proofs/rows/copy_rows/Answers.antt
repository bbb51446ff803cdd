use Rattle.std.proofs.Common.{◌≤◌, ◌+◌, ◌*◌, length, refl, arith}
use Rattle.std.proofs.lemmas.Bool.{leb-true, and_parts}
use Rattle.std.specs.Prelude.{nat_le, nat_lt, ◌^◌}
use Rattle.wc_video.specs.Layouts.{end_of}
use Rattle.wc_video.proofs.RowLaws.{row_more, all_rows, last_room}
use Rattle.wc_video.proofs.rows.copy_rows.Goals as goal

pub loop-r-preserved : goal.loop-r-preserved
loop-r-preserved c =
    let p = c.args.c.now in
    let fits : p.row ≤ p.layout.stride = leb-true p.row p.layout.stride (and_parts (nat_le p.row p.layout.stride) (nat_lt (end_of p) (2 ^ 32)) c.requires.fits).0 in
    let more = last_room p.layout.stride p.row c.loop-r.r p.rows fits c.loop-r-test.true in
    let room : p.layout.offset + p.layout.stride * c.loop-r.r + p.row ≤ length c.loop-r.to = omega (arith, more, c.requires.room, c.loop-r.auto.to) in
    row_more p c.args.bytes.now c.args.to.now c.loop-r.to c.copy_from_slice.new.self c.loop-r.r _ _ _ _ fits c.requires.there.some refl (omega arith) refl (omega arith) (c.requires.there.each c.loop-r.r c.loop-r-test.true) room c.copy_from_slice.ensures.after c.loop-r.invariant

pub returns : goal.returns
returns c =
    all_rows c.args.c.now c.args.bytes.now c.args.to.now c.loop-r.to c.loop-r.r (omega (arith, c.loop-r-test.false)) c.loop-r.auto.to c.loop-r.invariant
