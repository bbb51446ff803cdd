-- Moments that clocks may give.
use Rattle.std.specs.Prelude.{ℕ, ◌≡◌, ◌||◌, Bool, true, false, List, [], ◌∷◌}
use Rattle.work_moments.specs.Moments.{Telling, may_give}

-- each moment that a clock may give fits, by what it tells
abbrev pub Fits : (ℕ → Bool) → Telling → Type 0
Fits fits t = (m : ℕ) → may_give t.may m ≡ true → fits m ≡ true

abbrev pub FitEach : (ℕ → Bool) → List Telling → Type 0
FitEach fits [] = Unit {0}
FitEach fits (t ∷ ts) = Fits fits t × FitEach fits ts

-- one of the clocks that tell this may give the moment
abbrev pub some_may_give : List Telling → ℕ → Bool
some_may_give [] m = false
some_may_give (t ∷ ts) m = may_give t.may m || some_may_give ts m
