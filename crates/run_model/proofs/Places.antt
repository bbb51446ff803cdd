-- The steps of a caller, by its number.
use Rattle.std.proofs.Common.{ℕ, zero, suc, ◌≡◌, ◌<◌, ◌≤◌, List, [], ◌∷◌, length, get_or, Option, Some, None, refl}
use Rattle.std.proofs.lemmas.Option.{slice_get_read, slice_get_past}
use Rattle.std.specs.Prelude.{slice_get}
use Rattle.script_types.specs.declared.{script.CallerItem.CallerItem, steps.Step.Step}
use Rattle.run_model.specs.Recorded.{steps_in}

abbrev steps_found : Option CallerItem → List Step
steps_found None = []
steps_found (Some x) = x.steps

steps_by : (c : ℕ) (callers : List CallerItem) → steps_in callers c ≡ steps_found (slice_get callers c)
steps_by c [] = refl
steps_by zero (y ∷ ys) = refl
steps_by (suc c) (y ∷ ys) = steps_by c ys

pub steps_read : (c : ℕ) (callers : List CallerItem) (x : CallerItem) → c < length callers → x ≡ get_or callers c x → steps_in callers c ≡ x.steps
steps_read c callers x lt is = rw (steps_by c callers, slice_get_read callers (length callers) c x refl lt is) refl

pub steps_past : (c : ℕ) (callers : List CallerItem) → length callers ≤ c → steps_in callers c ≡ []
steps_past c callers beyond = rw (steps_by c callers, slice_get_past callers c beyond) refl
