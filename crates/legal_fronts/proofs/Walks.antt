-- A walk over a history, up to the first entry that is not legal.
use Rattle.std.proofs.Common.{ℕ, ◌+◌, ◌<◌, ◌≡◌, Bool, true, false, List, [], ◌∷◌, ◌++◌, length, get_or, take, drop, refl, sym, subst, arith}
use Rattle.std.proofs.lemmas.List.{take_more, drop_more}
use Rattle.legal_fronts.specs.Fronts.{legal_after, legal_entries}

module _ {E : Type 0} (is_next : List E → E → Bool) (history : List E) (i : ℕ) (d : E) (low : i < length history) (so_far : i + legal_after is_next (take i history) (drop i history) ≡ legal_entries is_next history) where
  -- one entry more is legal
  pub admitted : is_next (take i history) (get_or history i d) ≡ true → i + 1 + legal_after is_next (take (i + 1) history) (drop (i + 1) history) ≡ legal_entries is_next history
  admitted legal =
      let at : legal_after is_next (take i history) (drop i history) ≡ legal_after is_next (take (i + 1) history) (drop (i + 1) history) + 1 = rw (drop_more history i d low, legal, take_more history i d low) refl in
      omega (arith, so_far, at)

  -- and what is kept of the history goes on
  pub goes_on : (P : List E → Type 0) → is_next (take i history) (get_or history i d) ≡ true → P (take i history ++ get_or history i d ∷ []) → P (take (i + 1) history) × (i + 1 + legal_after is_next (take (i + 1) history) (drop (i + 1) history) ≡ legal_entries is_next history)
  goes_on P legal kept = (subst P (sym (take_more history i d low)) kept, admitted legal)

  -- the next is not
  pub refused : is_next (take i history) (get_or history i d) ≡ false → i ≡ legal_entries is_next history
  refused legal =
      let at : legal_after is_next (take i history) (drop i history) ≡ 0 = rw (drop_more history i d low, legal) refl in
      omega (arith, so_far, at)
