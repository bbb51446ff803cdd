-- Sums over lists, and logs that grow at their end.
use Rattle.std.proofs.Common.{◌≡◌, ℕ, zero, suc, ◌+◌, ◌<◌, ◌≤◌, List, [], ◌∷◌, ◌++◌, length, set, sym, refl, ap, ◌∙◌, append-nil, append_assoc, arith}
use mathlib.Core.Option.{some, some-injective, some-ne-none}
use lib.ListN.{get_elem?}
use Rattle.seat_lock.specs.Logs.{AreBelow, Continues, IsNotIn, NoneBy}
use Rattle.seat_lock.specs.Rule.{BelongTo, total}
use Rattle.wc_base.specs.Views.{Log}
use Rattle.wc_base.specs.declared.seat.Passage.{Passage}

module _ {A : Type 0} where
  pub inside : (l : List A) (i : ℕ) (a : A) → get_elem? l i ≡ some a → i < length l
  inside [] i a e = absurd (some-ne-none a (sym e))
  inside (x ∷ xs) zero a e = omega arith
  inside (x ∷ xs) (suc i) a e = let h = inside xs i a e in omega arith

  pub total_set : (f : A → ℕ) (l : List A) (i : ℕ) (v w : A) → get_elem? l i ≡ some v → total f (set l i w) + f v ≡ total f l + f w
  total_set f [] i v w e = absurd (some-ne-none v (sym e))
  total_set f (x ∷ xs) zero v w e = let h = ap f (some-injective x v e) in omega arith
  total_set f (x ∷ xs) (suc i) v w e = let h = total_set f xs i v w e in omega arith

  pub total_snoc : (f : A → ℕ) (l : List A) (w : A) → total f (l ++ w ∷ []) ≡ total f l + f w
  total_snoc f [] w = omega arith
  total_snoc f (x ∷ xs) w = let h = total_snoc f xs w in omega arith

  pub total_le : (f g : A → ℕ) (l : List A) → ((i : ℕ) (v : A) → get_elem? l i ≡ some v → f v ≤ g v) → total f l ≤ total g l
  total_le f g [] h = omega arith
  total_le f g (x ∷ xs) h = let a = h 0 x refl in let b = total_le f g xs (λ i v e. h (suc i) v e) in omega arith

  pub total_has : (f : A → ℕ) (l : List A) (i : ℕ) (v : A) → get_elem? l i ≡ some v → f v ≤ total f l
  total_has f [] i v e = absurd (some-ne-none v (sym e))
  total_has f (x ∷ xs) zero v e = let h = ap f (some-injective x v e) in omega arith
  total_has f (x ∷ xs) (suc i) v e = let h = total_has f xs i v e in omega arith

  -- two members of a list have no more than the whole sum
  pub total_one : (f : A → ℕ) (l : List A) (i j : ℕ) (v w : A) → get_elem? l i ≡ some v → get_elem? l j ≡ some w → ¬ (j ≡ i) → f v + f w ≤ total f l
  total_one f [] i j v w a b n = absurd (some-ne-none v (sym a))
  total_one f (x ∷ xs) zero zero v w a b n = absurd (n refl)
  total_one f (x ∷ xs) zero (suc j) v w a b n = let h = ap f (some-injective x v a) in let k = total_has f xs j w b in omega arith
  total_one f (x ∷ xs) (suc i) zero v w a b n = let h = ap f (some-injective x w b) in let k = total_has f xs i v a in omega arith
  total_one f (x ∷ xs) (suc i) (suc j) v w a b n = let k = total_one f xs i j v w a b (λ e. n (ap suc e)) in omega arith

module _ {E : Type 0} where
  pub free_snoc : (numbers : List ℕ) (l : Log E) (n : ℕ) (p : Passage E) → NoneBy numbers l → IsNotIn n numbers → NoneBy numbers (l ++ (n, p) ∷ [])
  free_snoc numbers [] n p f h = (h, tt)
  free_snoc numbers (x ∷ xs) n p f h = (f.0, free_snoc numbers xs n p f.1 h)

  pub free_end : (numbers : List ℕ) (a b : Log E) → NoneBy numbers (a ++ b) → NoneBy numbers b
  free_end numbers [] b f = f
  free_end numbers (x ∷ xs) b f = free_end numbers xs b f.1

  pub ahead_snoc : (numbers : List ℕ) (start log : Log E) (n : ℕ) (p : Passage E) → Continues numbers start log → IsNotIn n numbers → Continues numbers start (log ++ (n, p) ∷ [])
  ahead_snoc numbers start log n p a h = record {
    more = a.more ++ (n, p) ∷ [];
    is = ap (λ (l : Log E). l ++ (n, p) ∷ []) a.is ∙ append_assoc start a.more ((n, p) ∷ []);
    by_others = free_snoc numbers a.more n p a.by_others h;
  }

  pub ahead_whole : (numbers : List ℕ) (log : Log E) → Continues numbers log log
  ahead_whole numbers log = record { more = []; is = sym (append-nil log); by_others = tt }

  pub below_snoc : (k : ℕ) (l : Log E) (n : ℕ) (p : Passage E) → AreBelow k l → n < k → AreBelow k (l ++ (n, p) ∷ [])
  below_snoc k [] n p b h = (h, tt)
  below_snoc k (x ∷ xs) n p b h = (b.0, below_snoc k xs n p b.1 h)

pub owns_apart : (owner : ℕ → ℕ) (j k n : ℕ) (numbers : List ℕ) → BelongTo owner j numbers → owner n ≡ k → ¬ (j ≡ k) → IsNotIn n numbers
owns_apart owner j k n [] o e h = tt
owns_apart owner j k n (m ∷ ms) o e h = (λ same. h (sym (o.0) ∙ ap owner (sym same) ∙ e), owns_apart owner j k n ms o.1 e h)
