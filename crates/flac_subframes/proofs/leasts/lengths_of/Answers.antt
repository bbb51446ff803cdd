use Rattle.std.proofs.Common.{ℕ, ◌≤◌, ◌+◌, ◌*◌, ◌^◌, lit<, arith}
use Rattle.std.proofs.Math.Nat.{pow-le-pow_right}
use Rattle.flac_definitions.specs.Candidates.{candidate_bits}
use Rattle.flac_subframes.specs.Search.{best_of_order}
use Rattle.flac_subframes.proofs.LeastLaws.{order_least, five_below}
use Rattle.flac_subframes.proofs.leasts.lengths_of.Goals as goal

pub all_leasts-sums-requires-clause-few : goal.all_leasts-sums-requires-clause-few
all_leasts-sums-requires-clause-few c =
    let cut = c.requires.cut in
    let few : cut.partition ≤ 6 = omega (arith, cut.few, c.requires.most) in
    let up : 2 ^ cut.partition ≤ 2 ^ 6 = pow-le-pow_right (lit< tt) few in
    omega (arith, up, cut.number)

pub returns : goal.returns
returns c =
    let a = c.args in
    let xs = a.samples.now in
    let law = c.no_plan_is_below_leasts.ensures in
    let s = c.all_leasts-sums in
    let f : ℕ → ℕ = λ (o : ℕ). candidate_bits a.depth xs (best_of_order a.most xs o) in
    five_below f (18 + s.result.none) (18 + a.depth + s.result.one) (18 + 2 * a.depth + s.result.two) (18 + 3 * a.depth + s.result.three) (18 + 4 * a.depth + s.result.four)
    (omega (arith, order_least a.depth a.most 0 s.result.none xs a.parts law (omega arith) c.requires.cut s.ensures.none))
    (omega (arith, order_least a.depth a.most 1 s.result.one xs a.parts law (omega arith) c.requires.cut s.ensures.one))
    (omega (arith, order_least a.depth a.most 2 s.result.two xs a.parts law (omega arith) c.requires.cut s.ensures.two))
    (omega (arith, order_least a.depth a.most 3 s.result.three xs a.parts law (omega arith) c.requires.cut s.ensures.three))
    (omega (arith, order_least a.depth a.most 4 s.result.four xs a.parts law (omega arith) c.requires.cut s.ensures.four))
