use Rattle.std.proofs.Common.{ℕ, ◌≡◌, ◌<◌, ◌≤◌, ◌*◌, ◌^◌, ◌-◌, length, subst, ◌∙◌}
use Rattle.flac_plans.specs.Search.{total}
use Rattle.flac_plans.proofs.Windows.{quotients_none}
use Rattle.flac_plans.proofs.sums.narrowed_by.Goals as goal

pub returns-clause-fits : goal.returns-clause-fits
returns-clause-fits c =
    let zs = c.args.zs.now in
    let sum : c.quotients.result ≡ total zs = c.quotients.ensures.value ∙ quotients_none zs in
    record {
      some = c.requires.some;
      above = λ s. subst (λ (t : ℕ). 3 * length zs * 2 ^ (c.narrowed.result.low - 1) ≤ t) sum (c.narrowed.ensures.low s);
      below = λ s. subst (λ (t : ℕ). t ≤ length zs * 2 ^ c.narrowed.result.high) sum (c.narrowed.ensures.high s);
    }

pub returns-clause-greatest_low : goal.returns-clause-greatest_low
returns-clause-greatest_low c = λ k l m.
    let zs = c.args.zs.now in
    let sum : c.quotients.result ≡ total zs = c.quotients.ensures.value ∙ quotients_none zs in
    subst (λ (t : ℕ). t < 3 * length zs * 2 ^ (k - 1)) sum (c.narrowed.ensures.greatest_low k l m)

pub returns-clause-least_high : goal.returns-clause-least_high
returns-clause-least_high c = λ k l m.
    let zs = c.args.zs.now in
    let sum : c.quotients.result ≡ total zs = c.quotients.ensures.value ∙ quotients_none zs in
    subst (λ (t : ℕ). length zs * 2 ^ k < t) sum (c.narrowed.ensures.least_high k l m)
