-- Lines that are left.
use Rattle.std.proofs.Common.{ℕ, zero, suc, ◌≡◌, ◌+◌, List, [], ◌∷◌, Some, drop, slice_get, ap, refl, arith}
use Rattle.std.specs.List.{zip}
use Rattle.codec_model.specs.declared.entry.{Entry.Entry, Shown.Shown}
use Rattle.trace_text.specs.Report.{lines_from, entry_lines}

-- entries that showed nothing have no lines
pub no_pairs : (n : ℕ) (es : List Entry) (xs : List Shown) → xs ≡ [] → lines_from entry_lines n (zip es xs) ≡ []
no_pairs n [] xs none = refl
no_pairs n (e ∷ es) xs none = rw none refl

-- the items from a place on begin with the one at the place
pub dropped_at : {X : Type 0} (xs : List X) (n : ℕ) (x : X) → slice_get xs n ≡ Some x → drop n xs ≡ x ∷ drop (n + 1) xs
dropped_at [] n x is = grind (arith, is)
dropped_at (y ∷ ys) zero x is = ap (λ z. z ∷ ys) (grind (arith, is))
dropped_at (y ∷ ys) (suc n) x is =
    let next : suc n + 1 ≡ suc (n + 1) = omega arith in
    rw next (dropped_at ys n x is)
