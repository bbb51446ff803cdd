-- Two beginnings of one log, and the owners of numbers after a union.
use Rattle.std.proofs.Common.{◌≡◌, ℕ, zero, suc, ◌≤◌, ◌⊎◌, inl, inr, Bool, true, false, cond, eqb, ltb, List, [], ◌∷◌, ◌++◌, length, sym, refl, ap, ◌∙◌, subst, append-nil, length-append, arith, ⊎_elim, eq-eqb, ne_eqb, ltb-true, ltb-false}
use mathlib.Core.Option.{some, some-injective, some-ne-none}
use lib.ListN.{get_elem?}
use Rattle.seat_lock.proofs.Logs.{free_end, ahead_whole}
use Rattle.seat_lock.specs.Logs.{AreBelow, Continues, IsNotIn, NoneBy, longer, longer_if}
use Rattle.seat_lock.specs.Rule.{BelongTo}
use Rattle.wc_base.specs.Views.{Log}

module _ {A : Type 0} where
  pub at_snoc_at : (l : List A) (a b : A) (j : ℕ) → get_elem? (l ++ a ∷ []) j ≡ some b → (get_elem? l j ≡ some b) ⊎ ((j ≡ length l) × (a ≡ b))
  at_snoc_at [] a b zero e = inr (refl, some-injective a b e)
  at_snoc_at [] a b (suc j) e = absurd (some-ne-none b (sym e))
  at_snoc_at (x ∷ xs) a b zero e = inl e
  at_snoc_at (x ∷ xs) a b (suc j) e = ⊎_elim (λ h. inl h) (λ h. let n = h.0 in inr (omega arith, h.1)) (at_snoc_at xs a b j e)

  pub prefix_mid : (x y p q : List A) → x ++ p ≡ y ++ q → length x ≤ length y → (m : List A) × (y ≡ x ++ m) × (p ≡ m ++ q)
  prefix_mid [] y p q e h = (y, refl, e)
  prefix_mid (a ∷ x) [] p q e h = absurd (omega arith)
  prefix_mid (a ∷ x) (b ∷ y) p q e h =
      let hd : a ≡ b = cc in
      let tl : x ++ p ≡ y ++ q = cc in
      let k = prefix_mid x y p q tl (omega arith) in
      (k.0, λ i. sym hd i ∷ k.1 i, k.2)

  nothing_left : (x p l : List A) → l ≡ x ++ p → length l ≤ length x → x ≡ l
  nothing_left x [] l e h = sym (e ∙ append-nil x)
  nothing_left x (a ∷ p) l e h = let n = ap length e in let m = length-append x (a ∷ p) in absurd (omega arith)

not_both : (n : ℕ) (a b : List ℕ) → IsNotIn n a → IsNotIn n b → IsNotIn n (a ++ b)
not_both n [] b f g = g
not_both n (x ∷ xs) b f g = (f.0, not_both n xs b f.1 g)

module _ {E : Type 0} where
  pub free_front : (numbers : List ℕ) (a b : Log E) → NoneBy numbers (a ++ b) → NoneBy numbers a
  free_front numbers [] b f = tt
  free_front numbers (x ∷ xs) b f = (f.0, free_front numbers xs b f.1)

  pub free_none : (l : Log E) → NoneBy [] l
  free_none [] = tt
  free_none (x ∷ xs) = (tt, free_none xs)

  free_both : (a b : List ℕ) (l : Log E) → NoneBy a l → NoneBy b l → NoneBy (a ++ b) l
  free_both a b [] f g = tt
  free_both a b (x ∷ xs) f g = (not_both x.0 a b f.0 g.0, free_both a b xs f.1 g.1)

  pub below_more : (n m : ℕ) (l : Log E) → n ≤ m → AreBelow n l → AreBelow m l
  below_more n m [] h b = tt
  below_more n m (x ∷ xs) h b = let k = b.0 in (omega arith, below_more n m xs h b.1)

  pub below_free : (n j : ℕ) (l : Log E) → n ≤ j → AreBelow n l → NoneBy (j ∷ []) l
  below_free n j [] h b = tt
  below_free n j (x ∷ xs) h b = let k = b.0 in (((λ e. omega arith), tt), below_free n j xs h b.1)

  pub record Both (a b : List ℕ) (x y l log : Log E) : Type 0 where
    pub one : Continues a x l
    pub other : Continues b y l
    pub all : Continues (a ++ b) l log
    pub one_knows : x ≡ log → l ≡ log
    pub other_knows : y ≡ log → l ≡ log

  one_longer : (a b : List ℕ) (x y log : Log E) → Continues a x log → Continues b y log → length x ≤ length y → Both a b x y y log
  one_longer a b x y log A B h =
      let m = prefix_mid x y A.more B.more (sym A.is ∙ B.is) h in
      let free : NoneBy a (m.0 ++ B.more) = subst (λ (l : Log E). NoneBy a l) m.2 A.by_others in
      record {
        one = record { more = m.0; is = m.1; by_others = free_front a m.0 B.more free };
        other = ahead_whole b y;
        all = record { more = B.more; is = B.is; by_others = free_both a b B.more (free_end a m.0 B.more free) B.by_others };
        one_knows = λ e. nothing_left y B.more log B.is (let n = ap length e in omega arith);
        other_knows = λ e. e;
      }

  one_shorter : (a b : List ℕ) (x y log : Log E) → Continues a x log → Continues b y log → length y ≤ length x → Both a b x y x log
  one_shorter a b x y log A B h =
      let m = prefix_mid y x B.more A.more (sym B.is ∙ A.is) h in
      let free : NoneBy b (m.0 ++ A.more) = subst (λ (l : Log E). NoneBy b l) m.2 B.by_others in
      record {
        one = ahead_whole a x;
        other = record { more = m.0; is = m.1; by_others = free_front b m.0 A.more free };
        all = record { more = A.more; is = A.is; by_others = free_both a b A.more A.by_others (free_end b m.0 A.more free) };
        one_knows = λ e. e;
        other_knows = λ e. nothing_left x A.more log A.is (let n = ap length e in omega arith);
      }

  either_longer : (a b : List ℕ) (x y log : Log E) → Continues a x log → Continues b y log → (t : Bool) → ltb (length x) (length y) ≡ t → Both a b x y (longer_if t x y) log
  either_longer a b x y log A B true e = one_longer a b x y log A B (let h = ltb-true (length x) (length y) e in omega arith)
  either_longer a b x y log A B false e = one_shorter a b x y log A B (ltb-false (length x) (length y) e)

  pub longer_is : (a b : List ℕ) (x y log : Log E) → Continues a x log → Continues b y log → Both a b x y (longer x y) log
  longer_is a b x y log A B = either_longer a b x y log A B (ltb (length x) (length y)) refl

abbrev pub owner_after : (ℕ → ℕ) → ℕ → ℕ → ℕ → ℕ
owner_after owner other id n = cond (eqb (owner n) other) id (owner n)

pub owner_after_other : (owner : ℕ → ℕ) (other id n : ℕ) → owner n ≡ other → owner_after owner other id n ≡ id
owner_after_other owner other id n e = subst (λ b. cond b id (owner n) ≡ id) (sym (eq-eqb (owner n) other e)) refl

pub owner_after_else : (owner : ℕ → ℕ) (other id n k : ℕ) → owner n ≡ k → ¬ (k ≡ other) → owner_after owner other id n ≡ k
owner_after_else owner other id n k e h = subst (λ b. cond b id (owner n) ≡ k) (sym (ne_eqb (owner n) other (λ f. h (sym e ∙ f)))) e

pub owns_else : (owner : ℕ → ℕ) (other id k : ℕ) (numbers : List ℕ) → ¬ (k ≡ other) → BelongTo owner k numbers → BelongTo (owner_after owner other id) k numbers
owns_else owner other id k [] h o = tt
owns_else owner other id k (n ∷ ns) h o = (owner_after_else owner other id n k o.0 h, owns_else owner other id k ns h o.1)

pub owns_both : (owner : ℕ → ℕ) (other id : ℕ) (a b : List ℕ) → ¬ (id ≡ other) → BelongTo owner id a → BelongTo owner other b → BelongTo (owner_after owner other id) id (a ++ b)
owns_both owner other id [] [] h o q = tt
owns_both owner other id [] (n ∷ ns) h o q = (owner_after_other owner other id n q.0, owns_both owner other id [] ns h o q.1)
owns_both owner other id (m ∷ ms) b h o q = (owner_after_else owner other id m id o.0 h, owns_both owner other id ms b h o.1 q)
