-- Openings, one more after the other.
use Rattle.std.proofs.Common.{zero, suc, ◌≡◌, ◌≤◌, List, [], ◌∷◌, ◌++◌, subst}
use Rattle.codec_model.specs.declared.entry.Opening.{Opening}
use Rattle.desk_run.specs.Opened.{MayOpen}

pub no_openings : (xs : List Opening) → xs ≡ [] → MayOpen xs
no_openings [] none i o at = absurd cc
no_openings (x ∷ xs) none i o at = absurd cc

pub one_more : (xs : List Opening) (x : Opening) → (1 ≤ x.saturation) × (x.saturation ≤ 64) → MayOpen xs → MayOpen (xs ++ x ∷ [])
one_more [] x h before zero y at =
    let e : x ≡ y = cc in
    subst (λ (o : Opening). (1 ≤ o.saturation) × (o.saturation ≤ 64)) e h
one_more [] x h before (suc i) y at = absurd cc
one_more (z ∷ xs) x h before zero y at = before zero y at
one_more (z ∷ xs) x h before (suc i) y at = one_more xs x h (λ m w there. before (suc m) w there) i y at
