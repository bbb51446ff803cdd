use Rattle.std.proofs.Common.{ℕ, ◌∙◌, ◌≤◌, ◌*◌, ◌+◌, length, arith}
use Rattle.sample_conversion.specs.Layouts.{strided_samples}
use Rattle.sample_conversion.proofs.Layouts.{one_piece, size_some, place_small, no_channels}
use Rattle.sample_conversion.proofs.copy.each_frame.Goals as goal

pub returns-then-channels-eq0 : goal.returns-then-channels-eq0
returns-then-channels-eq0 g c =
    no_channels g.row.S g.row.D c.args.first c.args.step c.args.frames c.args.channels c.args.from.now c.args.to.now c.if-channels-eq0.true c.requires.room

pub overflow_add-first : goal.overflow_add-first
overflow_add-first g c =
    let x : ℕ = c.args.first + c.loop-k.k in
    let here : g.row.S * (x + 0 * c.args.step) + g.row.S ≤ length c.args.from.now = c.requires.there c.loop-k.k 0 c.loop-k-test.true (omega (arith, c.if-channels-eq0.false)) in
    let small = place_small g.row.S x (length c.args.from.now) (size_some g.row.S c.requires.from) (omega (arith, here)) in
    omega (arith, small)

pub loop-k-preserved : goal.loop-k-preserved
loop-k-preserved g c =
    let long = c.loop-k.auto.to ∙ c.requires.room in
    one_piece (λ n. strided_samples g.row.S g.row.D c.args.from.now (c.args.first + n) c.args.step c.args.channels) c.loop-k.to c.run.new.to (g.row.D * c.args.channels) c.loop-k.k c.args.frames c.loop-k.invariant c.run.ensures c.loop-k-test.true long c.run.auto.to
