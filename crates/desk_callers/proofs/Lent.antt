-- What a caller's variable lends to a codec.
use Rattle.std.proofs.Common.{ℕ, ◌≡◌, true, List, Option, Some, subst, ◌∙◌}
use Rattle.std.specs.Prelude.{IfSome}
use Rattle.codec_model.specs.declared.entry.{Handed.Handed}
use Rattle.media_variables.specs.Held.{WholeMedium, seen_in}
use Rattle.media_variables.specs.Variables.{Lendable, lendable_at, handed_of}
use Rattle.desk_callers.specs.declared.lending.LentVariable.{LentVariable}
use Rattle.desk_callers.specs.Lending.{LendsMedium}
use Rattle.desk_callers.proofs.Encoding.{LendsAs}

-- what is lent of a variable is what an accepted encode of its medium is handed
pub lends_as : (m : LentVariable) (vs : List (Option WholeMedium)) (variable : ℕ) → m.variables.now ≡ vs → m.variable ≡ variable → (y : Lendable) → lendable_at (seen_in vs) variable ≡ Some y → LendsAs y (LendsMedium m)
lends_as m vs variable is at y there held clone lent =
    subst (λ (o : Option Lendable). IfSome o (λ z. handed_of clone.number true z ≡ Handed.Cloned held)) ((λ i. lendable_at (seen_in (is i)) (at i)) ∙ there) lent
