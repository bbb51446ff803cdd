use Rattle.std.proofs.Common.{◌≤◌, ◌∙◌, length, refl, sym, arith}
use Rattle.std.proofs.lemmas.List.{length-take-le}
use Rattle.wc_video.proofs.StraightLaws.{straight_there, straight_piece}
use Rattle.wc_video.proofs.copying.write.Goals as goal

pub slice_bounds-copy_from_slice-end-then-is_straight-2 : goal.slice_bounds-copy_from_slice-end-then-is_straight-2
slice_bounds-copy_from_slice-end-then-is_straight-2 c =
    let there = straight_there (length c.args.bytes.now) c.args.p.now c.requires.laid (sym c.is_straight.ensures ∙ c.if-is_straight.true) in
    let within : c.size_of-size.result ≤ length c.args.bytes.now = omega (arith, there, c.size_of-size.ensures) in
    sym (length-take-le c.size_of-size.result c.args.bytes.now within)

pub copy_from_slice-requires : goal.copy_from_slice-requires
copy_from_slice-requires c =
    let there = straight_there (length c.args.bytes.now) c.args.p.now c.requires.laid (sym c.is_straight.ensures ∙ c.if-is_straight.true) in
    length-take-le c.size_of-size.result c.args.to.now (omega (arith, c.size_of-size.ensures, c.requires.room))
    ∙ sym (length-take-le c.size_of-size.result c.args.bytes.now (omega (arith, there, c.size_of-size.ensures)))

pub returns-then-is_straight : goal.returns-then-is_straight
returns-then-is_straight c =
    let straight = sym c.is_straight.ensures ∙ c.if-is_straight.true in
    let there = straight_there (length c.args.bytes.now) c.args.p.now c.requires.laid straight in
    straight_piece c.args.p.now c.args.bytes.now c.args.to.now c.copy_from_slice.new.self c.size_of-size.result c.size_of-size.result c.size_of-size.result straight c.size_of-size.ensures refl refl there c.requires.room c.copy_from_slice.ensures.after
