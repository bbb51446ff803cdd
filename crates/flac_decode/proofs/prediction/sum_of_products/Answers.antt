use Rattle.std.proofs.Common.{◌≡◌, ◌-◌, ℤ, pos, get_or, take, drop, reverse, arith, sym, ap, ◌∙◌}
use Rattle.std.specs.Prelude.{◌*ℤ◌}
use mir.Val.{to_z, of_z}
use mir.Syntax.{w64}
use Rattle.flac_definitions.specs.Prediction.{sum_of_products}
use Rattle.flac_decode.proofs.ProductLaws.{next_sum, sum_start}
use Rattle.flac_decode.proofs.prediction.sum_of_products.Goals as goal

pub loop-j-init : goal.loop-j-init
loop-j-init g c = record { sum = sym (sum_start c.args.coefficients.now (reverse (take c.args.place c.args.samples.now)) (g.row.N - 0) (omega arith)); small = omega arith }

pub loop-j-preserved : goal.loop-j-preserved
loop-j-preserved g c =
    let n = g.row.N in let k = n - 1 - c.loop-j.j in
    let a = to_z w64 (of_z w64 (get_or c.args.coefficients.now k (pos 0))) in
    let e : c.product-sum.result ≡ a *ℤ to_z w64 (of_z w64 (get_or c.args.samples.now (c.args.place - 1 - k) (pos 0))) =
    c.product-sum.ensures.product ∙ ap (λ (y : ℤ). a *ℤ to_z w64 (of_z w64 y)) c.sample_before-sample.ensures in
    let s = next_sum c.args.coefficients.now c.args.samples.now c.args.place c.loop-j.j k n (to_z w64 c.loop-j.sum-bits) c.product-sum.result
    (omega arith) (omega arith) (omega arith) (omega arith) (omega arith) (c.requires.coefficients k) (c.requires.samples (c.args.place - 1 - k))
    c.loop-j.invariant.sum c.loop-j.invariant.small e c.product-sum.ensures.small in
    record { sum = s.0; small = s.1 }

pub returns-clause-sum : goal.returns-clause-sum
returns-clause-sum g c =
    let n = g.row.N in c.loop-j.invariant.sum ∙ ap (λ m. sum_of_products (drop m c.args.coefficients.now) (drop m (reverse (take c.args.place c.args.samples.now)))) (let z : n - c.loop-j.j ≡ 0 = omega arith in z)
