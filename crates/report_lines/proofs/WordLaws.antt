-- Words, prefixes and names: what the code does meets the definitions, and what is written is read again.
use Rattle.std.proofs.Common.{◌≡◌, ℕ, suc, ◌+◌, Bool, true, false, cond, not, eqb, ltb, ◌&&◌, eq-eqb, List, [], ◌∷◌, ◌++◌, length, get_or, add-one, take, drop, Option, Some, None, refl, ap, ◌∙◌, arith, inl, inr, position, nat_eq}
use Rattle.std.specs.Prelude.{option_map}
use Rattle.std.specs.List.{list_all, position_or_len}
use Rattle.std.specs.Cmp.Lexicographic.{pointwise}
use Rattle.std.proofs.lemmas.Bool.{cases_Bool, ltb-true, lt-ltb, ltb-false, le-ltb, eqb-true, ne_eqb, and_parts}
use Rattle.wc_base.specs.Options.{cond_is}
use Rattle.report_lines.specs.Words.{◌>>=◌, upto, after, is_word_byte, word_at}
use Rattle.report_lines.specs.FieldLaws.{Lacks}

-- ---- up to the byte that ends a word or a field

-- A reader that goes on by each byte that fails a test stops at the place of the first that passes.
stops : {R : Type 0} (p : ℕ → Bool) (read : List ℕ → Option R) (made : List ℕ → ℕ → R) (more : ℕ → R → R) → read [] ≡ None → ((b : ℕ) (bs : List ℕ) → read (b ∷ bs) ≡ cond (p b) (Some (made (b ∷ bs) 0)) (read bs >>= λ x. Some (more b x)))
    → ((b i : ℕ) (bs : List ℕ) → more b (made bs i) ≡ made (b ∷ bs) (suc i)) → (bs : List ℕ) → read bs ≡ option_map (made bs) (position p bs)
stops p read made more none next further [] = none
stops {R = R} p read made more none next further (b ∷ bs) = next b bs ∙ rw (stops p read made more none next further bs) (by (p b) (position_or_len p bs))
  where
    by : (q : Bool) (k : ℕ) → cond {A = Option R} q (Some (made (b ∷ bs) 0)) (option_map (made bs) (cond (ltb k (length bs)) (Some k) None) >>= λ x. Some (more b x)) ≡ option_map (made (b ∷ bs)) (cond (ltb (cond (not q) (1 + k) 0) (suc (length bs))) (Some (cond (not q) (1 + k) 0)) None)
    by true k = rw (lt-ltb 0 (suc (length bs)) (omega arith)) refl
    by false k =
        let up : 1 + k ≡ suc k = omega arith in
        elim (cases_Bool (ltb k (length bs))) [
          | inl y ↦ rw (y, up, lt-ltb (suc k) (suc (length bs)) (omega (arith, ltb-true k (length bs) y))) (ap (λ (x : R). Some x) (further b k bs))
          | inr w ↦ rw (w, up, le-ltb (suc k) (suc (length bs)) (omega (arith, ltb-false k (length bs) w))) refl
        ]

pub upto_at_place : (t : ℕ) (bs : List ℕ) → upto t bs ≡ option_map (λ i. (take i bs, drop (i + 1) bs)) (position (λ b. eqb b t) bs)
upto_at_place t = stops (λ b. eqb b t) (upto t) (λ bs i. (take i bs, drop (i + 1) bs)) (λ b x. (b ∷ x.0, x.1)) refl (λ b bs. refl) (λ b i bs. rw (add-one, add-one) refl)

flip : {A : Type 0} (q : Bool) (x y : A) → cond q x y ≡ cond (not q) y x
flip true x y = refl
flip false x y = refl

pub word_at_place : (bs : List ℕ) → word_at bs ≡ option_map (λ i. (take i bs, get_or bs i 0, drop (i + 1) bs)) (position (λ b. not (is_word_byte b)) bs)
word_at_place = stops (λ b. not (is_word_byte b)) word_at (λ bs i. (take i bs, get_or bs i 0, drop (i + 1) bs)) (λ b x. (b ∷ x.0, x.1, x.2)) refl (λ b bs. flip (is_word_byte b) _ _) (λ b i bs. rw (add-one, add-one) refl)

pub upto_again : (t : ℕ) (w rest : List ℕ) → Lacks t w → upto t (w ++ t ∷ rest) ≡ Some (w, rest)
upto_again t [] rest lacks = rw (eq-eqb t t refl) refl
upto_again t (b ∷ w) rest lacks = rw (ne_eqb b t (lacks 0 (omega arith)), upto_again t w rest (λ i lt. lacks (suc i) (omega arith))) refl

pub word_again : (t : ℕ) (w rest : List ℕ) → list_all is_word_byte w ≡ true → is_word_byte t ≡ false → word_at (w ++ t ∷ rest) ≡ Some (w, t, rest)
word_again t [] rest word mark = rw mark refl
word_again t (b ∷ w) rest word mark = let both = and_parts (is_word_byte b) (list_all is_word_byte w) word in rw (both.0, word_again t w rest both.1 mark) refl

-- ---- behind a prefix

pub after_strips : (ps bs : List ℕ) → after ps bs ≡ cond (pointwise nat_eq (take (length ps) bs) ps) (Some (drop (length ps) bs)) None
after_strips (p ∷ ps) (b ∷ bs) = elim (eqb b p) as (λ q. cond q (after ps bs) None ≡ cond (q && pointwise nat_eq (take (length ps) bs) ps) (Some (drop (length ps) bs)) None) [ true ↦ after_strips ps bs | false ↦ refl ]
after_strips _ _ = refl

pub after_again : (w rest : List ℕ) → after w (w ++ rest) ≡ Some rest
after_again [] rest = refl
after_again (b ∷ w) rest = rw (eq-eqb b b refl, after_again w rest) refl

pub after_only : (w bs rest : List ℕ) → after w bs ≡ Some rest → bs ≡ w ++ rest
after_only [] bs rest e = cc
after_only (x ∷ w) [] rest e = absurd cc
after_only (x ∷ w) (b ∷ bs) rest e = let both = cond_is (eqb b x) (after w bs) rest e in cc (eqb-true b x both.0, after_only w bs rest both.1)
