use Rattle.std.proofs.Common.{ℕ, ◌≡◌, ◌+◌, ◌^◌, length, get_or, refl, arith}
use Rattle.flac_plans.specs.Search.{quotients}
use Rattle.flac_plans.proofs.Windows.{row_at, are_words, quotients_bound}
use Rattle.std.proofs.lemmas.List.Sums.{sum_by-append}
use Rattle.std.proofs.Common.{◌/◌}
use Rattle.flac_plans.proofs.sums.sum_at.Goals as goal

pub overflow_add-result : goal.overflow_add-result
overflow_add-result c =
    let k = c.args.low + c.args.c in
    let w = length c.args.left_sums.now in
    let a : get_or c.args.left_sums.now c.args.c 0 ≡ quotients k c.args.left.now = row_at c.args.low w c.args.left.now c.args.left_sums.now c.args.c (get_or c.args.left_sums.now c.args.c 0) c.requires.left_row c.requires.within refl in
    let b : get_or c.args.right_sums.now c.args.c 0 ≡ quotients k c.args.right.now = row_at c.args.low w c.args.right.now c.args.right_sums.now c.args.c (get_or c.args.right_sums.now c.args.c 0) c.requires.right_row c.requires.within refl in
    let p = quotients_bound k c.args.left.now (are_words c.args.left.now c.type_inv.left) in
    let q = quotients_bound k c.args.right.now (are_words c.args.right.now c.type_inv.right) in
    omega (arith, a, b, p, q, c.requires)

pub returns : goal.returns
returns c =
    let k = c.args.low + c.args.c in
    let w = length c.args.left_sums.now in
    let a : get_or c.args.left_sums.now c.args.c 0 ≡ quotients k c.args.left.now = row_at c.args.low w c.args.left.now c.args.left_sums.now c.args.c (get_or c.args.left_sums.now c.args.c 0) c.requires.left_row c.requires.within refl in
    let b : get_or c.args.right_sums.now c.args.c 0 ≡ quotients k c.args.right.now = row_at c.args.low w c.args.right.now c.args.right_sums.now c.args.c (get_or c.args.right_sums.now c.args.c 0) c.requires.right_row c.requires.within refl in
    omega (arith, a, b, sum_by-append (λ (z : ℕ). z / 2 ^ k) c.args.left.now c.args.right.now)
