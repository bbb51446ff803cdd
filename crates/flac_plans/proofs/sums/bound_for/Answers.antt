use Rattle.std.proofs.Common.{ℕ, ◌≤◌, ◌+◌, ◌*◌, ◌/◌, ◌^◌, length, map, ap, subst, sym, ◌∙◌}
use Rattle.std.proofs.lemmas.List.{length-map}
use Rattle.flac_definitions.specs.ResidualSpelling.{folded_value}
use Rattle.flac_plans.specs.Search.{bound_at, least_value, total}
use Rattle.flac_plans.proofs.Least.{below_least}
use Rattle.flac_plans.proofs.Sizes.{bound_grows}
use Rattle.flac_plans.proofs.sums.bound_for.Goals as goal

pub returns-clause-below : goal.returns-clause-below
returns-clause-below c =
    let xs = c.args.values.now in
    let zs = map folded_value xs in
    let b = c.bound_of.result in
    below_least b zs (λ k l.
    subst (λ (n : ℕ). b ≤ n * k + (total zs + n) / 2 ^ k) (sym (length-map xs folded_value))
    (bound_grows b (length xs) k (2 * c.size_of.result) (total zs + length xs) c.size_of.ensures.below (c.bound_of.ensures.below k l)))

pub returns-clause-value : goal.returns-clause-value
returns-clause-value c =
    let xs = c.args.values.now in
    let zs = map folded_value xs in
    c.bound_of.ensures.value
    ∙ (ap (λ (n : ℕ). least_value (bound_at n (2 * c.size_of.result)) 14) (sym (length-map xs folded_value))
    ∙ ap (λ (n : ℕ). least_value (bound_at (length zs) (2 * n)) 14) c.size_of.ensures.value)
