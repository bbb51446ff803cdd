use Rattle.std.proofs.Common.{ℕ, ◌∙◌, ◌≡◌, ◌*◌, ◌+◌, ◌-◌, List, take, drop, ap, refl}
use Rattle.sample_conversion.specs.Layouts.{strided_samples}
use Rattle.sample_conversion.proofs.Layouts.{one_piece, pair_is, part_len, minus}
use Rattle.sample_conversion.proofs.copy.each_pair.Goals as goal

pub loop-k-preserved : goal.loop-k-preserved
loop-k-preserved g c =
    let s : ℕ = g.row.S in
    let k : ℕ = c.loop-k.k in
    let from : List ℕ = c.args.from.now in
    let a : ℕ = c.args.first + k in
    let b : ℕ = a + c.args.step in
    let part : (n : ℕ) → take (s * n + s - s * n) (drop (s * n) from) ≡ take s (drop (s * n) from) = λ n. ap (λ (m : ℕ). take m (drop (s * n) from)) (minus (s * n) s) in
    let one_len = part_len from (s * a) s (c.requires.one k c.loop-k-test.true) in
    let is = pair_is from (take (s * a + s - s * a) (drop (s * a) from)) (take (s * b + s - s * b) (drop (s * b) from)) c.pair.new.to s g.row.D a b c.args.step (part a) one_len (part b) refl c.pair.ensures in
    one_piece (λ n. strided_samples s g.row.D from (c.args.first + n) c.args.step 2) c.loop-k.to c.pair.new.to (g.row.D * 2) k c.args.frames c.loop-k.invariant is c.loop-k-test.true (c.loop-k.auto.to ∙ c.requires.room) c.pair.auto.to
