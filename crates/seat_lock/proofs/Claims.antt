-- How claims are held after one passage more, a union and a cut.
use Rattle.std.proofs.Common.{◌≡◌, ℕ, ◌+◌, ◌<◌, ◌≤◌, inl, inr, Bool, true, false, cond, eqb, List, [], ◌∷◌, ◌++◌, sym, refl, ap, ◌∙◌, subst, ⊎_elim, append-nil, append_assoc, arith, eq-eqb, ne_eqb, Option, Some, None}
use mathlib.Core.Logic.{dite}
use native.Mathlib.Decide.{ℕ_discrete}
use Rattle.seat_lock.proofs.Unions.{owner_after, owner_after_else, owner_after_other}
use Rattle.seat_lock.specs.Claims.{AreLive, HasClaim, HoldsClaims, IsLive, claims_after, is_claim, is_unspent, mint_count, mints_in, remove_claim, spends_in, with_claim, without_claim}
use Rattle.seat_lock.specs.Logs.{AreDistinct, Has, IsNotIn}
use Rattle.wc_base.specs.Views.{Log}
use Rattle.wc_base.specs.declared.seat.Passage.{Passage}

unspent_at : (b u w : Bool) → cond b false u ≡ true → (u ≡ true → w ≡ true) → cond b false w ≡ true
unspent_at true u w e h = e
unspent_at false u w e h = h e

module _ (E : Type 0) (mints : E → Bool) (spends : List E → E → Option ℕ) where
  abbrev M : Log E → ℕ
  M = mint_count mints spends

  abbrev U : ℕ → Log E → Log E → Bool
  U = is_unspent mints spends

  abbrev C : (ℕ → ℕ) → ℕ → Log E → List ℕ → Type 0
  C = HoldsClaims mints spends

  abbrev step_of : Passage E → ℕ
  step_of p = cond (mints_in mints spends p) 1 0

  pub minted_snoc : (l : Log E) (n : ℕ) (p : Passage E) → M (l ++ (n, p) ∷ []) ≡ M l + step_of p
  minted_snoc [] n p = omega arith
  minted_snoc (x ∷ xs) n p = let h = minted_snoc xs n p in omega arith

  unspent_snoc : (k : ℕ) (before l : Log E) (n : ℕ) (p : Passage E) → U k before l ≡ true → is_claim (spends_in mints spends (before ++ l) p) k ≡ false → U k before (l ++ (n, p) ∷ []) ≡ true
  unspent_snoc k before [] n p u h = subst (λ b. cond b false true ≡ true) (sym (subst (λ (z : Log E). is_claim (spends_in mints spends z p) k ≡ false) (append-nil before) h)) refl
  unspent_snoc k before (x ∷ xs) n p u h = unspent_at (is_claim (spends_in mints spends before x.1) k) (U k (before ++ x ∷ []) xs) (U k (before ++ x ∷ []) (xs ++ (n, p) ∷ [])) u
      (λ v. unspent_snoc k (before ++ x ∷ []) xs n p v (subst (λ (z : Log E). is_claim (spends_in mints spends z p) k ≡ false) (sym (append_assoc before (x ∷ []) xs)) h))

  live_stays : (k : ℕ) (l : Log E) (n : ℕ) (p : Passage E) → IsLive mints spends k l → is_claim (spends_in mints spends l p) k ≡ false → IsLive mints spends k (l ++ (n, p) ∷ [])
  live_stays k l n p i h = record { below = let a = i.below in let b = minted_snoc l n p in omega arith; unspent = unspent_snoc k [] l n p i.unspent h }

  pub are_live : (holder : ℕ → ℕ) (j : ℕ) (l : Log E) (ks : List ℕ) → C holder j l ks → AreLive mints spends l ks
  are_live holder j l [] c = tt
  are_live holder j l (k ∷ ks) c = (c.0, are_live holder j l ks c.3)

  pub distinct : (holder : ℕ → ℕ) (j : ℕ) (l : Log E) (ks : List ℕ) → C holder j l ks → AreDistinct ks
  distinct holder j l [] c = tt
  distinct holder j l (k ∷ ks) c = (c.2, distinct holder j l ks c.3)

  -- the holder of each claim, once the seat id has the new claim m
  abbrev pub holder_after : (ℕ → ℕ) → ℕ → ℕ → ℕ → ℕ
  holder_after holder m id k = cond (eqb k m) id (holder k)

  -- a seat keeps the claims that a passage does not spend
  claims_stay : (holder : ℕ → ℕ) (id j : ℕ) (l : Log E) (n : ℕ) (p : Passage E) (ks : List ℕ) → C holder j l ks → ((k : ℕ) → Has k ks → is_claim (spends_in mints spends l p) k ≡ false) → C (holder_after holder (M l) id) j (l ++ (n, p) ∷ []) ks
  claims_stay holder id j l n p [] c h = tt
  claims_stay holder id j l n p (k ∷ ks) c h = let a = c.0.below in
      (live_stays k l n p c.0 (h k (inl refl)), subst (λ b. cond b id (holder k) ≡ j) (sym (ne_eqb k (M l) (λ e. omega arith))) c.1, c.2, claims_stay holder id j l n p ks c.3 (λ x i. h x (inr i)))

  holder_has : (holder : ℕ → ℕ) (j : ℕ) (l : Log E) (ks : List ℕ) → C holder j l ks → (k : ℕ) → Has k ks → holder k ≡ j
  holder_has holder j l [] c k h = absurd h
  holder_has holder j l (x ∷ xs) c k h = ⊎_elim (λ e. ap holder e ∙ c.1) (λ i. holder_has holder j l xs c.3 k i) h

  claim_else : (o : Option ℕ) (k : ℕ) → ((c : ℕ) → o ≡ Some c → ¬ (c ≡ k)) → is_claim o k ≡ false
  claim_else None k h = refl
  claim_else (Some c) k h = ne_eqb c k (h c refl)

  spent_has : (o : Option ℕ) (ks : List ℕ) (c : ℕ) → HasClaim o ks → o ≡ Some c → Has c ks
  spent_has None ks c h e = absurd cc
  spent_has (Some d) ks c h e = let s : d ≡ c = cc in subst (λ (z : ℕ). Has z ks) s h

  -- the claims of every other seat
  pub others_keep : (holder : ℕ → ℕ) (id j : ℕ) (l : Log E) (n : ℕ) (p : Passage E) (ks mine : List ℕ) → ¬ (j ≡ id) → C holder j l ks → C holder id l mine → HasClaim (spends_in mints spends l p) mine
      → C (holder_after holder (M l) id) j (l ++ (n, p) ∷ []) ks
  others_keep holder id j l n p ks mine apart c m h = claims_stay holder id j l n p ks c (λ k i. claim_else (spends_in mints spends l p) k
      (λ d e s. apart (sym (holder_has holder j l ks c k i) ∙ (ap holder (sym s) ∙ holder_has holder id l mine m d (spent_has (spends_in mints spends l p) mine d h e)))))

  not_has : (k c : ℕ) (ks : List ℕ) → IsNotIn k ks → Has c ks → ¬ (k ≡ c)
  not_has k c [] n h e = h
  not_has k c (x ∷ xs) n h e = ⊎_elim (λ f. n.0 (e ∙ f)) (λ i. not_has k c xs n.1 i e) h

  has_drop : (c k : ℕ) (ks : List ℕ) → Has k (remove_claim c ks) → Has k ks
  has_drop c k [] h = h
  has_drop c k (x ∷ xs) h = dite (ℕ_discrete c x)
      (λ e. inr (subst (λ b. Has k (cond b xs (x ∷ remove_claim c xs))) (eq-eqb c x e) h))
      (λ n. let i = subst (λ b. Has k (cond b xs (x ∷ remove_claim c xs))) (ne_eqb c x n) h in ⊎_elim (λ e. inl e) (λ j. inr (has_drop c k xs j)) i)

  not_drop : (k c : ℕ) (ks : List ℕ) → IsNotIn k ks → IsNotIn k (remove_claim c ks)
  not_drop k c [] n = tt
  not_drop k c (x ∷ xs) n = dite (ℕ_discrete c x)
      (λ e. subst (λ b. IsNotIn k (cond b xs (x ∷ remove_claim c xs))) (sym (eq-eqb c x e)) n.1)
      (λ m. subst (λ b. IsNotIn k (cond b xs (x ∷ remove_claim c xs))) (sym (ne_eqb c x m)) (n.0, not_drop k c xs n.1))

  claims_drop : (holder : ℕ → ℕ) (j : ℕ) (l : Log E) (c : ℕ) (ks : List ℕ) → C holder j l ks → C holder j l (remove_claim c ks) × ((k : ℕ) → Has k (remove_claim c ks) → ¬ (c ≡ k))
  claims_drop holder j l c [] h = (tt, λ k i. absurd i)
  claims_drop holder j l c (x ∷ xs) h = dite (ℕ_discrete c x)
      (λ e. subst (λ b. C holder j l (cond b xs (x ∷ remove_claim c xs)) × ((k : ℕ) → Has k (cond b xs (x ∷ remove_claim c xs)) → ¬ (c ≡ k))) (sym (eq-eqb c x e))
      (h.3, λ k i f. not_has x k xs h.2 i (sym e ∙ f)))
      (λ n. let t = claims_drop holder j l c xs h.3 in subst (λ b. C holder j l (cond b xs (x ∷ remove_claim c xs)) × ((k : ℕ) → Has k (cond b xs (x ∷ remove_claim c xs)) → ¬ (c ≡ k))) (sym (ne_eqb c x n))
      ((h.0, h.1, not_drop x c xs h.2, t.0), λ k i f. ⊎_elim (λ g. n (f ∙ g)) (λ j. t.1 k j f) i))

  mine_without : (holder : ℕ → ℕ) (id : ℕ) (l : Log E) (n : ℕ) (p : Passage E) (ks : List ℕ) → C holder id l ks → (o : Option ℕ) → spends_in mints spends l p ≡ o → C (holder_after holder (M l) id) id (l ++ (n, p) ∷ []) (without_claim o ks)
  mine_without holder id l n p ks c None e = claims_stay holder id id l n p ks c (λ k i. ap (λ (o : Option ℕ). is_claim o k) e)
  mine_without holder id l n p ks c (Some d) e = let t = claims_drop holder id l d ks c in
      claims_stay holder id id l n p (remove_claim d ks) t.0 (λ k i. ap (λ (o : Option ℕ). is_claim o k) e ∙ ne_eqb d k (t.1 k i))

  has_without : (o : Option ℕ) (k : ℕ) (ks : List ℕ) → Has k (without_claim o ks) → Has k ks
  has_without None k ks h = h
  has_without (Some c) k ks h = has_drop c k ks h

  below_has : (holder : ℕ → ℕ) (j : ℕ) (l : Log E) (ks : List ℕ) → C holder j l ks → (k : ℕ) → Has k ks → k < M l
  below_has holder j l [] c k h = absurd h
  below_has holder j l (x ∷ xs) c k h = ⊎_elim (λ e. let a = c.0.below in omega arith) (λ i. below_has holder j l xs c.3 k i) h

  not_in : (k : ℕ) (ks : List ℕ) → ¬ (Has k ks) → IsNotIn k ks
  not_in k [] h = tt
  not_in k (x ∷ xs) h = ((λ e. h (inl e)), not_in k xs (λ i. h (inr i)))

  -- later claims stay unspent
  pub later_stay : (holder : ℕ → ℕ) (id : ℕ) (l : Log E) (n : ℕ) (p : Passage E) (ks : List ℕ) → ((k : ℕ) → M l ≤ k → U k [] l ≡ true) → C holder id l ks → HasClaim (spends_in mints spends l p) ks → (k : ℕ) → M l ≤ k → U k [] (l ++ (n, p) ∷ []) ≡ true
  later_stay holder id l n p ks f c h k m = unspent_snoc k [] l n p (f k m) (claim_else (spends_in mints spends l p) k (λ d e s. let b = below_has holder id l ks c d (spent_has (spends_in mints spends l p) ks d h e) in omega arith))

  with_at : (holder : ℕ → ℕ) (id : ℕ) (l : Log E) (n : ℕ) (p : Passage E) (ks : List ℕ) → C (holder_after holder (M l) id) id (l ++ (n, p) ∷ []) ks → ¬ (Has (M l) ks) → U (M l) [] (l ++ (n, p) ∷ []) ≡ true → (b : Bool) → mints_in mints spends p ≡ b
      → C (holder_after holder (M l) id) id (l ++ (n, p) ∷ []) (with_claim b (M l) ks)
  with_at holder id l n p ks c out u true e = let m = minted_snoc l n p in let one : step_of p ≡ 1 = ap (λ (b : Bool). cond b 1 0) e in
      (record { below = omega arith; unspent = u }, subst (λ b. cond b id (holder (M l)) ≡ id) (sym (eq-eqb (M l) (M l) refl)) refl, not_in (M l) ks out, c)
  with_at holder id l n p ks c out u false e = c

  -- the claims of the seat whose passage it is
  pub mine_after : (holder : ℕ → ℕ) (id : ℕ) (l : Log E) (n : ℕ) (p : Passage E) (ks : List ℕ) → ((k : ℕ) → M l ≤ k → U k [] l ≡ true) → C holder id l ks → HasClaim (spends_in mints spends l p) ks
      → C (holder_after holder (M l) id) id (l ++ (n, p) ∷ []) (claims_after mints spends ks l p)
  mine_after holder id l n p ks f c h =
      with_at holder id l n p (without_claim (spends_in mints spends l p) ks) (mine_without holder id l n p ks c (spends_in mints spends l p) refl)
      (λ i. let b = below_has holder id l ks c (M l) (has_without (spends_in mints spends l p) (M l) ks i) in omega arith)
      (later_stay holder id l n p ks f c h (M l) (omega arith)) (mints_in mints spends p) refl

  -- a union: the claims of the seat `other` go to the seat id
  pub claims_else : (holder : ℕ → ℕ) (other id j : ℕ) (l : Log E) (ks : List ℕ) → ¬ (j ≡ other) → C holder j l ks → C (owner_after holder other id) j l ks
  claims_else holder other id j l [] h c = tt
  claims_else holder other id j l (k ∷ ks) h c = (c.0, owner_after_else holder other id k j c.1 h, c.2, claims_else holder other id j l ks h c.3)

  not_in_both : (k : ℕ) (a b : List ℕ) → IsNotIn k a → IsNotIn k b → IsNotIn k (a ++ b)
  not_in_both k [] b f g = g
  not_in_both k (x ∷ xs) b f g = (f.0, not_in_both k xs b f.1 g)

  claims_over : (holder : ℕ → ℕ) (other id : ℕ) (l : Log E) (ks : List ℕ) → C holder other l ks → C (owner_after holder other id) id l ks
  claims_over holder other id l [] c = tt
  claims_over holder other id l (k ∷ ks) c = (c.0, owner_after_other holder other id k c.1, c.2, claims_over holder other id l ks c.3)

  pub claims_union : (holder : ℕ → ℕ) (other id : ℕ) (l : Log E) (a b : List ℕ) → ¬ (id ≡ other) → C holder id l a → C holder other l b → C (owner_after holder other id) id l (a ++ b)
  claims_union holder other id l [] b h c d = claims_over holder other id l b d
  claims_union holder other id l (k ∷ ks) b h c d =
      (c.0, owner_after_else holder other id k id c.1 h, not_in_both k ks b c.2 (not_in k b (λ i. h (sym c.1 ∙ holder_has holder other l b d k i))), claims_union holder other id l ks b h c.3 d)

  pub holds_it : (holder : ℕ → ℕ) (j : ℕ) (l : Log E) (ks : List ℕ) → C holder j l ks → (k : ℕ) → Has k ks → (holder k ≡ j) × IsLive mints spends k l
  holds_it holder j l [] c k h = absurd h
  holds_it holder j l (x ∷ xs) c k h = ⊎_elim (λ e. (ap holder e ∙ c.1, subst (λ (z : ℕ). IsLive mints spends z l) (sym e) c.0)) (λ i. holds_it holder j l xs c.3 k i) h

  claims_off : (holder : ℕ → ℕ) (id j m : ℕ) (l : Log E) (k : ℕ) (ks : List ℕ) → C holder j l ks → ((x : ℕ) → Has x ks → ¬ (x ≡ k)) → C (λ x. cond (eqb x k) m (holder x)) j l ks
  claims_off holder id j m l k [] c h = tt
  claims_off holder id j m l k (x ∷ xs) c h = (c.0, subst (λ b. cond b m (holder x) ≡ j) (sym (ne_eqb x k (h x (inl refl)))) c.1, c.2, claims_off holder id j m l k xs c.3 (λ y i. h y (inr i)))

  -- a cut: the claim k goes from the seat id to the new view m
  pub claims_cut : (holder : ℕ → ℕ) (id m : ℕ) (l : Log E) (k : ℕ) (ks : List ℕ) → C holder id l ks → C (λ x. cond (eqb x k) m (holder x)) id l (remove_claim k ks)
  claims_cut holder id m l k ks c = let t = claims_drop holder id l k ks c in claims_off holder id id m l k (remove_claim k ks) t.0 (λ x i e. t.1 x i (sym e))

  pub claims_except : (holder : ℕ → ℕ) (id j m : ℕ) (l : Log E) (k : ℕ) (ks mine : List ℕ) → ¬ (j ≡ id) → C holder j l ks → C holder id l mine → Has k mine → C (λ x. cond (eqb x k) m (holder x)) j l ks
  claims_except holder id j m l k ks mine apart c d h = claims_off holder id j m l k ks c (λ x i e. apart (sym (holder_has holder j l ks c x i) ∙ (ap holder e ∙ holder_has holder id l mine d k h)))

  pub claims_one : (holder : ℕ → ℕ) (id m : ℕ) (l : Log E) (k : ℕ) (mine : List ℕ) → C holder id l mine → Has k mine → C (λ x. cond (eqb x k) m (holder x)) m l (k ∷ [])
  claims_one holder id m l k mine d h = ((holds_it holder id l mine d k h).1, subst (λ b. cond b m (holder k) ≡ m) (sym (eq-eqb k k refl)) refl, tt, tt)
