use Rattle.std.proofs.Common.{ℤ, List, ◌*◌, ap, ◌∙◌, sym, subst}
use Rattle.flac_subframes.specs.Search.{differences, AreWithin}
use Rattle.flac_subframes.proofs.Residuals.{next_residuals, differences_within}
use Rattle.flac_subframes.proofs.orders.to_next_order.Goals as goal

pub returns-clause-value : goal.returns-clause-value
returns-clause-value c =
    c.to_differences.ensures ∙ (ap differences c.requires.residual ∙ next_residuals c.args.order c.args.samples.now c.requires.order)

pub returns-clause-within : goal.returns-clause-within
returns-clause-within c =
    subst (λ (l : List ℤ). AreWithin (2 * c.args.most) l) (sym c.to_differences.ensures) (differences_within c.args.most c.args.residual.now.items c.requires.within)
