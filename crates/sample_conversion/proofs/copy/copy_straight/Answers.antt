use Rattle.std.proofs.Common.{ℕ, ◌≡◌, ◌<◌, ◌+◌, ◌-◌, ◌∙◌, length, arith}
use Rattle.sample_conversion.proofs.{Shared.are_bytes, Layouts.straight, Layouts.straight_room}
use Rattle.sample_conversion.proofs.copy.copy_straight.Goals as goal

pub returns-then-count-gt0 : goal.returns-then-count-gt0
returns-then-count-gt0 c =
    let m : ℕ = c.args.count - 1 in
    let next : c.args.count ≡ m + 1 = omega (arith, c.if-count-gt0.true) in
    let below : m < c.args.count = omega (arith, c.if-count-gt0.true) in
    let room = straight_room c.args.s c.args.first m c.args.count (length c.args.from.now) next (c.requires.there m below) in
    c.copy_from_slice.ensures.after ∙ straight c.args.s c.args.first c.args.count c.args.from.now c.requires.size (are_bytes c.args.from.now c.type_inv.from) room
