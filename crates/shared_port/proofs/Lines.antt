-- Sums over passes, lines of posts, and lists of which one element changes.
use Rattle.std.proofs.Common.{◌≡◌, ◌≢◌, ℕ, zero, suc, ◌+◌, ◌≤◌, List, [], ◌∷◌, ◌++◌, length, set, sym, refl, ap, subst, ⊎_elim, arith}
use Rattle.std.specs.List.{sum_by, flat_map}
use Rattle.std.proofs.lemmas.List.Sums.{sum_by-cons}
use mathlib.Core.Option.{some, some-injective, some-ne-none}
use lib.ListN.{get_elem?}
use Rattle.atomic_table.proofs.Lists.{at_set, at_snoc}
use Rattle.codec_accounts.specs.BagsLaws.{weigh_append}
use Rattle.seat_lock.specs.Rule.{total}
use Rattle.shared_port.specs.Views.{placed_from, AreBefore}

module _ {A : Type 0} where
  pub total_set : (f : A → ℕ) (l : List A) (i : ℕ) (v w : A) → get_elem? l i ≡ some v → total f (set l i w) + f v ≡ total f l + f w
  total_set f [] i v w e = absurd (some-ne-none v (sym e))
  total_set f (x ∷ xs) zero v w e = let h = ap f (some-injective x v e) in omega arith
  total_set f (x ∷ xs) (suc i) v w e = let h = total_set f xs i v w e in omega arith

  pub total_snoc : (f : A → ℕ) (l : List A) (w : A) → total f (l ++ w ∷ []) ≡ total f l + f w
  total_snoc f [] w = omega arith
  total_snoc f (x ∷ xs) w = let h = total_snoc f xs w in omega arith

  total_has : (f : A → ℕ) (l : List A) (i : ℕ) (v : A) → get_elem? l i ≡ some v → f v ≤ total f l
  total_has f [] i v e = absurd (some-ne-none v (sym e))
  total_has f (x ∷ xs) zero v e = let h = ap f (some-injective x v e) in omega arith
  total_has f (x ∷ xs) (suc i) v e = let h = total_has f xs i v e in omega arith

  -- two members of a list have no more than the whole sum
  pub total_two : (f : A → ℕ) (l : List A) (i j : ℕ) (v w : A) → get_elem? l i ≡ some v → get_elem? l j ≡ some w → j ≢ i → f v + f w ≤ total f l
  total_two f [] i j v w a b n = absurd (some-ne-none v (sym a))
  total_two f (x ∷ xs) zero zero v w a b n = absurd (n refl)
  total_two f (x ∷ xs) zero (suc j) v w a b n = let h = ap f (some-injective x v a) in let k = total_has f xs j w b in omega arith
  total_two f (x ∷ xs) (suc i) zero v w a b n = let h = ap f (some-injective x w b) in let k = total_has f xs i v a in omega arith
  total_two f (x ∷ xs) (suc i) (suc j) v w a b n = let k = total_two f xs i j v w a b (λ e. n (ap suc e)) in omega arith

  -- what holds of all elements holds of them as one changes, and as one comes
  pub each_set : (F : A → Type 0) (l : List A) (i : ℕ) (w : A) → F w → ((j : ℕ) (u : A) → j ≢ i → get_elem? l j ≡ some u → F u) → (j : ℕ) (u : A) → get_elem? (set l i w) j ≡ some u → F u
  each_set F l i w mine others j u e = ⊎_elim (λ (p : (j ≡ i) × (w ≡ u)). subst F p.1 mine) (λ (p : (j ≢ i) × (get_elem? l j ≡ some u)). others j u p.0 p.1) (at_set l i j w u e)

  pub each_snoc : (F : A → Type 0) (l : List A) (w : A) → F w → ((j : ℕ) (u : A) → get_elem? l j ≡ some u → F u) → (j : ℕ) (u : A) → get_elem? (l ++ w ∷ []) j ≡ some u → F u
  each_snoc F l w mine others j u e = ⊎_elim (λ (p : get_elem? l j ≡ some u). others j u p) (λ (p : w ≡ u). subst F p mine) (at_snoc l w u j e)

module _ {A X : Type 0} where
  pub sum_flat : (t : X → ℕ) (f : A → List X) (l : List A) → sum_by t (flat_map f l) ≡ total (λ v. sum_by t (f v)) l
  sum_flat t f [] = refl
  sum_flat t f (x ∷ xs) = let a = weigh_append t (f x) (flat_map f xs) in let b = sum_flat t f xs in omega (arith, a, b)

  pub flat_none : (f : A → List X) (l : List A) → ((j : ℕ) (u : A) → get_elem? l j ≡ some u → f u ≡ []) → flat_map f l ≡ []
  flat_none f [] h = refl
  flat_none f (x ∷ xs) h = (λ i. h 0 x refl i ++ flat_none f xs (λ j u e. h (suc j) u e) i)

module _ {X : Type 0} where
  pub weigh_snoc : (t : X → ℕ) (l : List X) (e : X) → sum_by t (l ++ e ∷ []) ≡ sum_by t l + t e
  weigh_snoc t l e =
      let a = weigh_append t l (e ∷ []) in
      let b = sum_by-cons t e [] in
      let c : sum_by t [] ≡ 0 = refl in
      omega (arith, a, b, c)

  weigh_from : (t : ℕ × X → ℕ) (k : ℕ) (l : List X) (x : X) → sum_by t (placed_from k (l ++ x ∷ [])) ≡ sum_by t (placed_from k l) + t (k + length l, x)
  weigh_from t k [] x =
      let b = sum_by-cons t (k, x) [] in
      let c : sum_by t [] ≡ 0 = refl in
      let n : k ≡ k + 0 = omega arith in
      let d : t (k, x) ≡ t (k + 0, x) = ap (λ (m : ℕ). t (m, x)) n in
      omega (arith, b, c, d)
  weigh_from t k (y ∷ ys) x =
      let a = sum_by-cons t (k, y) (placed_from (suc k) (ys ++ x ∷ [])) in
      let b = sum_by-cons t (k, y) (placed_from (suc k) ys) in
      let c = weigh_from t (suc k) ys x in
      let n : suc k + length ys ≡ k + length (y ∷ ys) = omega arith in
      let d : t (suc k + length ys, x) ≡ t (k + length (y ∷ ys), x) = ap (λ (m : ℕ). t (m, x)) n in
      omega (arith, a, b, c, d)

  -- a line with one post more
  pub weigh_line : (t : ℕ × X → ℕ) (l : List X) (x : X) → sum_by t (placed_from 0 (l ++ x ∷ [])) ≡ sum_by t (placed_from 0 l) + t (length l, x)
  weigh_line t l x =
      let a = weigh_from t 0 l x in
      let n : 0 + length l ≡ length l = omega arith in
      let d : t (0 + length l, x) ≡ t (length l, x) = ap (λ (m : ℕ). t (m, x)) n in
      omega (arith, a, d)

  pub before_more : (n m : ℕ) (l : List (ℕ × X)) → n ≤ m → AreBefore n l → AreBefore m l
  before_more n m [] h b = tt
  before_more n m (p ∷ ps) h b = ((let c = b.0 in omega arith), before_more n m ps h b.1)

  pub before_both : (n : ℕ) (a b : List (ℕ × X)) → AreBefore n a → AreBefore n b → AreBefore n (a ++ b)
  before_both n [] b x y = y
  before_both n (p ∷ ps) b x y = (x.0, before_both n ps b x.1 y)
