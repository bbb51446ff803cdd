use Rattle.std.proofs.Common.{ℕ, pos, length, get_or, map, sym, ◌∙◌, arith}
use Rattle.std.proofs.lemmas.List.{get_or-map, length-map}
use Rattle.std.proofs.lemmas.List.FromFn.{fill_by_all}
use Rattle.flac_definitions.specs.ResidualSpelling.{folded_value}
use Rattle.flac_plans.proofs.sums.fold_into.Goals as goal

pub returns : goal.returns
returns c =
    let xs = c.args.residual.now in
    let n = length xs in
    let v = c.loop-j.invariant in
    let f : ℕ → ℕ = λ (j : ℕ). folded_value (get_or xs j (pos 0)) in
    fill_by_all f c.loop-j.out n 0 v.count (λ k l. v.values k (omega (arith, l, v.count)))
    ∙ sym (fill_by_all f (map folded_value xs) n 0 (length-map xs folded_value) (λ k l. get_or-map folded_value xs k (pos 0) 0 l))
