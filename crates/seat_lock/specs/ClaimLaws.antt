-- Laws of claims along a log.
use Rattle.std.proofs.Common.{ℕ, ◌≡◌, Bool, true, false, cond, List, [], ◌∷◌, ◌++◌, Option, refl, ap, sym, subst, append-nil, append_assoc}
use Rattle.wc_base.specs.Views.{Log}
use Rattle.wc_base.specs.declared.seat.Passage.TheVariants.{Made, Look}
use Rattle.seat_lock.specs.Logs.{entries_of}
use Rattle.seat_lock.specs.Claims.{is_claim, is_unspent, spends_in}

-- one claim is not spent here, and the rest goes on
pub unclaimed : (b u : Bool) → cond b false u ≡ true → (b ≡ false) × (u ≡ true)
unclaimed true u h = absurd cc
unclaimed false u h = (refl, h)

module _ {E : Type 0} where
  -- the entries of two logs, one after the other
  pub entries_both : (a b : Log E) → entries_of (a ++ b) ≡ entries_of a ++ entries_of b
  entries_both [] b = refl
  entries_both ((n, Made e) ∷ ps) b = ap (λ (es : List E). e ∷ es) (entries_both ps b)
  entries_both ((n, Look) ∷ ps) b = entries_both ps b

  -- a claim that no passage spends is not spent from any passage on
  pub unspent_rest : (mints : E → Bool) (spends : List E → E → Option ℕ) (k : ℕ) (acc a b : Log E) → is_unspent mints spends k acc (a ++ b) ≡ true → is_unspent mints spends k (acc ++ a) b ≡ true
  unspent_rest mints spends k acc [] b u = subst (λ (l : Log E). is_unspent mints spends k l b ≡ true) (sym (append-nil acc)) u
  unspent_rest mints spends k acc (p ∷ ps) b u = subst (λ (l : Log E). is_unspent mints spends k l b ≡ true) (append_assoc acc (p ∷ []) ps) (unspent_rest mints spends k (acc ++ p ∷ []) ps b (unclaimed (is_claim (spends_in mints spends acc p.1) k) (is_unspent mints spends k (acc ++ p ∷ []) (ps ++ b)) u).1)
