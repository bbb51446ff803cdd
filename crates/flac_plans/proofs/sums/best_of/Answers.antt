use Rattle.std.proofs.Common.{ℕ, ◌≡◌, ◌≤◌, ◌+◌, ◌-◌, ◌*◌, length, subst, sym, ap, ◌∙◌, arith}
use Rattle.flac_definitions.specs.Plans.{cost}
use Rattle.flac_plans.specs.Search.{IsFirstLeast}
use Rattle.flac_plans.proofs.Windows.{in_window, are_words, quotients_bound, cost_is}
use Rattle.std.proofs.Math.Nat.{mul-le-mul_left}
use Rattle.flac_plans.proofs.sums.best_of.Goals as goal

pub returns-clause-best : goal.returns-clause-best
returns-clause-best c =
    let zs = c.args.zs.now in
    let w = c.args.window in
    let to : w.low + length c.args.sums.now - 1 ≡ w.high = omega (arith, c.requires.width, c.requires.order) in
    let b : IsFirstLeast (λ (k : ℕ). cost k zs) w.low w.high c.choose.result.0 = subst (λ (t : ℕ). IsFirstLeast (λ (k : ℕ). cost k zs) w.low t c.choose.result.0) to c.choose.ensures.best in
    sym (in_window w.low w.high zs c.choose.result.0 c.requires.window c.requires.order c.requires.most b)

pub returns-clause-bits : goal.returns-clause-bits
returns-clause-bits c =
    let zs = c.args.zs.now in
    let w = c.args.window in
    let to : w.low + length c.args.sums.now - 1 ≡ w.high = omega (arith, c.requires.width, c.requires.order) in
    let b : IsFirstLeast (λ (k : ℕ). cost k zs) w.low w.high c.choose.result.0 = subst (λ (t : ℕ). IsFirstLeast (λ (k : ℕ). cost k zs) w.low t c.choose.result.0) to c.choose.ensures.best in
    c.choose.ensures.bits ∙ ap (λ (k : ℕ). cost k zs) (sym (in_window w.low w.high zs c.choose.result.0 c.requires.window c.requires.order c.requires.most b))

pub returns-clause-bound : goal.returns-clause-bound
returns-clause-bound c =
    let zs = c.args.zs.now in
    let w = c.args.window in
    let to : w.low + length c.args.sums.now - 1 ≡ w.high = omega (arith, c.requires.width, c.requires.order) in
    let b : IsFirstLeast (λ (k : ℕ). cost k zs) w.low w.high c.choose.result.0 = subst (λ (t : ℕ). IsFirstLeast (λ (k : ℕ). cost k zs) w.low t c.choose.result.0) to c.choose.ensures.best in
    let k = c.choose.result.0 in
    let few : k ≤ 14 = omega (arith, b.to_ge, c.requires.most) in
    let bound = quotients_bound k zs (are_words zs c.type_inv.zs) in
    let product : length zs * (1 + k) ≤ length zs * 15 = mul-le-mul_left (length zs) (omega (arith, few)) in
    omega (arith, c.choose.ensures.bits, cost_is k zs, bound, product)
