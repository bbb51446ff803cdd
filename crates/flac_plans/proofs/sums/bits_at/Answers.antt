use Rattle.std.proofs.Common.{◌≡◌, ◌≤◌, ◌+◌, ◌*◌, length, get_or, refl, arith}
use Rattle.flac_plans.specs.Search.{quotients}
use Rattle.flac_plans.proofs.Windows.{row_at, are_words, quotients_bound, cost_is}
use Rattle.std.proofs.Math.Nat.{mul-le-mul_left}
use Rattle.flac_plans.proofs.sums.bits_at.Goals as goal

pub overflow_add-result-3 : goal.overflow_add-result-3
overflow_add-result-3 c =
    let zs = c.args.zs.now in
    let k = c.args.low + c.args.c in
    let here : get_or c.args.sums.now c.args.c 0 ≡ quotients k zs = row_at c.args.low (length c.args.sums.now) zs c.args.sums.now c.args.c (get_or c.args.sums.now c.args.c 0) c.requires.row c.requires.within refl in
    let bound = quotients_bound k zs (are_words zs c.type_inv.zs) in
    let product : length zs * (1 + c.args.low + c.args.c) ≤ length zs * 15 = mul-le-mul_left (length zs) (omega (arith, c.requires)) in
    omega (arith, here, bound, product, c.requires)

pub returns-clause-value : goal.returns-clause-value
returns-clause-value c =
    let zs = c.args.zs.now in
    let k = c.args.low + c.args.c in
    let here : get_or c.args.sums.now c.args.c 0 ≡ quotients k zs = row_at c.args.low (length c.args.sums.now) zs c.args.sums.now c.args.c (get_or c.args.sums.now c.args.c 0) c.requires.row c.requires.within refl in
    omega (arith, here, cost_is k zs)

pub returns-clause-bound : goal.returns-clause-bound
returns-clause-bound c =
    let zs = c.args.zs.now in
    let k = c.args.low + c.args.c in
    let here : get_or c.args.sums.now c.args.c 0 ≡ quotients k zs = row_at c.args.low (length c.args.sums.now) zs c.args.sums.now c.args.c (get_or c.args.sums.now c.args.c 0) c.requires.row c.requires.within refl in
    let bound = quotients_bound k zs (are_words zs c.type_inv.zs) in
    let product : length zs * (1 + c.args.low + c.args.c) ≤ length zs * 15 = mul-le-mul_left (length zs) (omega (arith, c.requires)) in
    omega (arith, here, bound, product)
