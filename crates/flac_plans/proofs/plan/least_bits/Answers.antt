use Rattle.std.proofs.Common.{ℕ, ◌≤◌, ◌+◌, ap, ◌∙◌, ◌/◌, ◌^◌, map, sym, subst, arith}
use Rattle.flac_definitions.specs.ResidualSpelling.{folded_value}
use Rattle.flac_definitions.specs.Plans.{finest, plan_bits, best_partition}
use Rattle.flac_plans.specs.Search.{leasts, part_bounds}
use Rattle.flac_plans.proofs.Windows.{is_first}
use Rattle.flac_plans.proofs.Descent.{one_shifted}
use Rattle.flac_plans.proofs.Least.{plan_no_less}
use Rattle.flac_plans.proofs.plan.least_bits.Goals as goal

pub returns-clause-least : goal.returns-clause-least
returns-clause-least c =
    let a = c.args in
    let zs = map folded_value a.residual.now in
    let f = c.finest-finest.result in
    let p = best_partition a.block a.order a.most zs in
    let within : p ≤ finest a.block a.order a.most = (is_first (plan_bits a.block a.order zs) (finest a.block a.order a.most)).to_ge in
    let less : p ≤ f = subst (λ (n : ℕ). p ≤ n) (sym c.finest-finest.ensures.value) within in
    let b : c.least_of.result ≤ leasts (a.block / 2 ^ f) a.order zs (2 ^ f) = subst (λ (n : ℕ). c.least_of.result ≤ leasts (a.block / 2 ^ f) a.order zs n) (one_shifted f c.finest-finest.ensures.most) c.least_of.ensures.least in
    omega (arith, plan_no_less a.block a.order zs f p c.least_of.result c.finest-finest.ensures.fits less b)

pub returns-clause-value : goal.returns-clause-value
returns-clause-value c =
    let a = c.args in
    let zs = map folded_value a.residual.now in
    let f = c.finest-finest.result in
    ap (λ (n : ℕ). 10 + n) (c.least_of.ensures.value
    ∙ (ap (λ (n : ℕ). part_bounds (a.block / 2 ^ f) a.order zs n) (one_shifted f c.finest-finest.ensures.most)
    ∙ ap (λ (p : ℕ). part_bounds (a.block / 2 ^ p) a.order zs (2 ^ p)) c.finest-finest.ensures.value))
