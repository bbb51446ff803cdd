use Rattle.std.proofs.Common.{ℕ, ◌≡◌, sym, subst, arith, rules, to_z, of_z, w64}
use Rattle.flac_definitions.specs.FixedPredictors.{predicted}
use Rattle.flac_subframes.proofs.orders.predicted_at.Goals as goal

pub returns-in_default-clause-value : goal.returns-in_default-clause-value
returns-in_default-clause-value c =
    let four : c.args.order ≡ 4 = omega arith in
    subst (λ (o : ℕ). to_z w64 (of_z w64 c.predicted_by_four.result) ≡ predicted o c.args.samples.now c.args.i) (sym four) (search rules)
