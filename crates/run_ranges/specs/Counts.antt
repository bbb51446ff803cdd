-- What legal runs have of their scripts, and what holds of the elements of a list.
use Rattle.std.proofs.Common.{ℕ, zero, suc, ◌≡◌, List, [], ◌∷◌, length, Some, refl, ap, subst}
use Rattle.std.specs.Prelude.{slice_get}
use Rattle.std.specs.List.{AllByRecursion}
use Rattle.script_types.specs.declared.script.CallerItem.{CallerItem}
use Rattle.script_types.specs.declared.script.CodecItem.{CodecItem}
use Rattle.script_types.specs.declared.steps.Step.{Step}
use Rattle.run_model.specs.declared.run.CodecTrace.{CodecTrace}
use Rattle.run_model.specs.Recorded.{steps_in}
use Rattle.run_model.specs.Fits.{AreLegalTraces}

-- as many histories as codecs
pub traces_count : (cs : List CodecItem) (ts : List CodecTrace) → AreLegalTraces cs ts → length ts ≡ length cs
traces_count [] [] legal = refl
traces_count [] (t ∷ ts) legal = absurd legal
traces_count (c ∷ cs) [] legal = absurd legal
traces_count (c ∷ cs) (t ∷ ts) legal = ap (λ (n : ℕ). suc n) (traces_count cs ts legal.1)

-- the caller whose step stands at a place
pub caller_of_step : (cs : List CallerItem) (i j : ℕ) (x : Step) → slice_get (steps_in cs i) j ≡ Some x → (c : CallerItem) × (slice_get cs i ≡ Some c) × (slice_get c.steps j ≡ Some x)
caller_of_step [] i j x is = absurd cc
caller_of_step (c ∷ cs) zero j x is = (c, refl, is)
caller_of_step (c ∷ cs) (suc i) j x is = caller_of_step cs i j x is

-- what holds of each element by its number holds of all, and the other way round
pub all_from : {X : Type 0} (P : X → Type 0) (xs : List X) → ((i : ℕ) (x : X) → slice_get xs i ≡ Some x → P x) → AllByRecursion P xs
all_from P [] h = tt
all_from P (x ∷ xs) h = (h 0 x refl, all_from P xs (λ i y is. h (suc i) y is))

pub all_at : {X : Type 0} (P : X → Type 0) (xs : List X) (i : ℕ) (x : X) → AllByRecursion P xs → slice_get xs i ≡ Some x → P x
all_at P [] i x h is = absurd cc
all_at P (y ∷ ys) zero x h is = let same : y ≡ x = cc in subst P same h.0
all_at P (y ∷ ys) (suc i) x h is = all_at P ys i x h.1 is
