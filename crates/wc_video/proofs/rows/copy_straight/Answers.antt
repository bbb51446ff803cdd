use Rattle.std.proofs.Common.{refl, arith}
use Rattle.wc_video.proofs.RowLaws.{one_piece, piece_there}
use Rattle.wc_video.proofs.rows.copy_straight.Goals as goal

pub slice_bounds-copy_from_slice-end-2 : goal.slice_bounds-copy_from_slice-end-2
slice_bounds-copy_from_slice-end-2 c =
    let there = piece_there c.args.c.now _ c.requires.tight c.requires.there in
    omega (arith, there)

pub returns : goal.returns
returns c =
    let p = c.args.c.now in
    let there = piece_there p _ c.requires.tight c.requires.there in
    one_piece p c.args.bytes.now c.args.to.now c.copy_from_slice.new.self _ _ p.from _ c.requires.whole c.requires.tight c.requires.there.some (omega arith) refl refl (omega arith) (omega (arith, there)) c.requires.room c.copy_from_slice.ensures.after
