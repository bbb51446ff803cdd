-- What a variable of a caller lends to a codec.
use Rattle.std.proofs.Common.{◌≡◌, true, refl}
use Rattle.std.specs.Prelude.{IfSome}
use Rattle.atomic_table.specs.Seated.{TableId}
use Rattle.wc_pool.specs.declared.reference.MediaRef.{MediaRef}
use Rattle.codec_model.specs.declared.entry.HeldMedium.{HeldMedium}
use Rattle.codec_model.specs.declared.entry.Handed.TheVariants as handed
use Rattle.shared_pool.specs.Refs.{IsPoolRef}
use Rattle.media_variables.specs.declared.lending.MediumFound.TheVariants as found
use Rattle.media_variables.specs.Variables.{lendable_at, handed_of}
use Rattle.media_variables.specs.Held.{AreOf, medium_found, seen_in}
use Rattle.desk_callers.specs.declared.lending.LentVariable.{LentVariable}

-- all references that the variables hold are of this pool, and the variable's medium is open
abbrev pub HasOpen : TableId → LentVariable → Type 0
HasOpen pool m = AreOf (IsPoolRef pool) m.variables.now × (medium_found (lendable_at (seen_in m.variables.now) m.variable) ≡ found.Open)

-- what an encode that is accepted is handed of the variable's medium, with one reference more of this number
abbrev pub LendsMedium : LentVariable → HeldMedium → MediaRef → Type 0
LendsMedium m held clone = IfSome (lendable_at (seen_in m.variables.now) m.variable) (λ y. handed_of clone.number true y ≡ handed.Cloned held)

-- the same variable of the same caller, and what steps see of all of them stays
pub record StaysSeen (a b : LentVariable) : Type 0 where
  pub borrowed : b.variables.ghost_name ≡ a.variables.ghost_name
  pub variable : b.variable ≡ a.variable
  pub seen : seen_in b.variables.now ≡ seen_in a.variables.now

pub seen_rests : (m : LentVariable) → StaysSeen m m
seen_rests m = record { borrowed = refl; variable = refl; seen = refl }
