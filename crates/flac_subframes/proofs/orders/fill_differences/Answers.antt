use Rattle.std.proofs.Common.{ℕ, pos, ◌+◌, ◌-◌, ◌-ℤ◌, length, length-take, take, arith, ◌∙◌}
use Rattle.std.proofs.lemmas.List.{get_or-take}
use Rattle.std.proofs.lemmas.List.FromFn.{fill_by_all}
use Rattle.flac_definitions.specs.FixedPredictors.{at}
use Rattle.flac_subframes.proofs.orders.fill_differences.Goals as goal

pub returns : goal.returns
returns c =
    let xs = c.args.values.now in
    let ys = c.loop-j.values in
    let n = length xs - 1 in
    let v = c.loop-j.invariant in
    fill_by_all (λ (j : ℕ). at xs (j + 1) -ℤ at xs j) (take n ys) n (pos 0) (omega (arith, length-take n ys, v.count))
    (λ k l. get_or-take n ys k (pos 0) l ∙ v.values k (omega (arith, l)))
