-- What stands in lists, told by weights alone: elements may be such that no test compares them.
use Rattle.std.proofs.Common.{ℕ, zero, suc, ◌+◌, ◌<◌, ◌≤◌, ◌≡◌, inl, inr, cond, eqb, List, [], ◌∷◌, Option, Some, None, ap, sym, subst, ◌∙◌, refl, arith, eq-eqb}
use Rattle.std.specs.Prelude.{slice_get}
use Rattle.std.specs.List.{sum_by, flat_map}
use Rattle.std.proofs.lemmas.List.Sums.{sum_by-cons}
use Rattle.std.proofs.lemmas.Bool.{cases_Bool, eqb-true}
use Rattle.wc_base.specs.Options.{some_same}
use Rattle.codec_accounts.specs.Bags.{SameBag}
use Rattle.codec_accounts.specs.BagsLaws.{sum_flat_map}
use Rattle.shared_port.specs.Views.{placed_from}

-- however they are weighed, the second weighs as much as the first, or more
abbrev pub IsAsHeavy : {X : Type 0} → X → X → Type 0
IsAsHeavy {X} x y = (t : X → ℕ) → t x ≤ t y

-- the list weighs as much as this element, or more
abbrev pub Has : {X : Type 0} → List X → X → Type 0
Has {X} l x = (t : X → ℕ) → t x ≤ sum_by t l

pub has_at : {X : Type 0} (l : List X) (i : ℕ) (x : X) → slice_get l i ≡ Some x → Has l x
has_at [] i x h t = absurd cc
has_at (y ∷ ys) zero x h t =
    let e : t y ≡ t x = ap t (some_same y x h) in
    let c = sum_by-cons t y ys in
    omega (arith, e, c)
has_at (y ∷ ys) (suc i) x h t =
    let r = has_at ys i x h t in
    let c = sum_by-cons t y ys in
    omega (arith, r, c)

-- two elements of a list weigh no more than all of it
pub two_weigh : {A : Type 0} (w : A → ℕ) (l : List A) (i j : ℕ) (a b : A) → i < j → slice_get l i ≡ Some a → slice_get l j ≡ Some b → w a + w b ≤ sum_by w l
two_weigh w [] i j a b lt h k = absurd cc
two_weigh w (y ∷ ys) i zero a b lt h k = absurd (omega (arith, lt))
two_weigh w (y ∷ ys) zero (suc j) a b lt h k =
    let e : w y ≡ w a = ap w (some_same y a h) in
    let r = has_at ys j b k w in
    let c = sum_by-cons w y ys in
    omega (arith, e, r, c)
two_weigh w (y ∷ ys) (suc i) (suc j) a b lt h k =
    let r = two_weigh w ys i j a b (omega (arith, lt)) h k in
    let c = sum_by-cons w y ys in
    omega (arith, r, c)

-- where a list weighs something, an element does
pub record Weighs {A : Type 0} (w : A → ℕ) (l : List A) : Type 0 where
  pub index : ℕ
  pub element : A
  pub stands : slice_get l index ≡ Some element
  pub weighs : 1 ≤ w element

pub some_weighs : {A : Type 0} (w : A → ℕ) (l : List A) → 1 ≤ sum_by w l → Weighs w l
some_weighs w [] h = absurd (omega (arith, h))
some_weighs {A} w (y ∷ ys) h = first (w y) refl (some_weighs w ys)
  where
    first : (n : ℕ) → w y ≡ n → (1 ≤ sum_by w ys → Weighs w ys) → Weighs w (y ∷ ys)
    first zero e rest =
        let c = sum_by-cons w y ys in
        let r = rest (omega (arith, h, e, c)) in
        record { index = suc r.index; element = r.element; stands = r.stands; weighs = r.weighs }
    first (suc n) e rest = record { index = zero; element = y; stands = refl; weighs = omega (arith, e) }

-- ---- by places

-- the weight of what stands at this place
abbrev pub at_place : {X : Type 0} → ℕ → (X → ℕ) → ℕ × X → ℕ
at_place n t p = cond (eqb n p.0) (t p.1) 0

abbrev pub weight : {X : Type 0} → (X → ℕ) → Option X → ℕ
weight t None = 0
weight t (Some x) = t x

module _ {X : Type 0} where
  here : (n m : ℕ) (t : X → ℕ) (x : X) → n ≡ m → at_place n t (m, x) ≡ t x
  here n m t x e = ap (λ b. cond b (t x) 0) (eq-eqb n m e)

  elsewhere : (n m : ℕ) (t : X → ℕ) (x : X) → n < m → at_place n t (m, x) ≡ 0
  elsewhere n m t x lt = elim (cases_Bool (eqb n m)) [
    | inl same ↦ absurd (let e = eqb-true n m same in omega (arith, e, lt))
    | inr other ↦ ap (λ b. cond b (t x) 0) other
  ]

  none_before : (n k : ℕ) (t : X → ℕ) (l : List X) → n < k → sum_by (at_place n t) (placed_from k l) ≡ 0
  none_before n k t [] lt = refl
  none_before n k t (x ∷ xs) lt =
      let c = sum_by-cons (at_place n t) (k, x) (placed_from (suc k) xs) in
      let e = elsewhere n k t x lt in
      let r = none_before n (suc k) t xs (omega (arith, lt)) in
      omega (arith, c, e, r)

  line_from : (k n m : ℕ) (t : X → ℕ) (l : List X) → m ≡ k + n → sum_by (at_place m t) (placed_from k l) ≡ weight t (slice_get l n)
  line_from k n m t [] is = refl
  line_from k zero m t (x ∷ xs) is =
      let c = sum_by-cons (at_place m t) (k, x) (placed_from (suc k) xs) in
      let e = here m k t x (omega (arith, is)) in
      let r = none_before m (suc k) t xs (omega (arith, is)) in
      omega (arith, c, e, r)
  line_from k (suc n) m t (x ∷ xs) is =
      let c = sum_by-cons (at_place m t) (k, x) (placed_from (suc k) xs) in
      let e = apart in
      let r = line_from (suc k) n m t xs (omega (arith, is)) in
      omega (arith, c, e, r)
    where
      apart : at_place m t (k, x) ≡ 0
      apart = elim (cases_Bool (eqb m k)) [
        | inl same ↦ absurd (let e = eqb-true m k same in omega (arith, e, is))
        | inr other ↦ ap (λ b. cond b (t x) 0) other
      ]

  -- a line weighs at a place what stands there
  pub line_weighs : (n : ℕ) (t : X → ℕ) (l : List X) → sum_by (at_place n t) (placed_from 0 l) ≡ weight t (slice_get l n)
  line_weighs n t l = line_from 0 n n t l (omega arith)

  heavier : (o : Option X) (x : X) → ((t : X → ℕ) → t x ≤ weight t o) → (y : X) × ((o ≡ Some y) × IsAsHeavy x y)
  heavier None x h = absurd (let a = h (λ _. 1) in omega (arith, a))
  heavier (Some y) x h = (y, (refl, h))

  -- what a line has stands at its place
  pub stands_there : (l : List X) (n : ℕ) (x : X) → Has (placed_from 0 l) (n, x) → (y : X) × ((slice_get l n ≡ Some y) × IsAsHeavy x y)
  stands_there l n x h = heavier (slice_get l n) x (λ t. (
      let a = h (at_place n t) in
      let b = here n n t x refl in
      let c = line_weighs n t l in
      omega (arith, a, b, c)))

  as_heavy : (o : Option X) (x z : X) → (y : X) × ((o ≡ Some y) × IsAsHeavy x y) → o ≡ Some z → IsAsHeavy x z
  as_heavy o x z h is = subst (λ y. IsAsHeavy x y) (some_same h.0 z (sym h.1.0 ∙ is)) h.1.1

  -- what weighs something at a place stands there
  pub placed_there : (n : ℕ) (l : List (ℕ × X)) (i : ℕ) (p : ℕ × X) → slice_get l i ≡ Some p → 1 ≤ at_place n (λ _. 1) p → slice_get l i ≡ Some (n, p.1)
  placed_there n l i p is h = elim (cases_Bool (eqb n p.0)) [
    | inl same ↦ is ∙ ap (λ (m : ℕ). Some (m, p.1)) (sym (eqb-true n p.0 same))
    | inr other ↦ absurd (let e : at_place n (λ _. 1) p ≡ 0 = ap (λ b. cond b 1 0) other in omega (arith, h, e))
  ]

-- ---- a line whose elements stand in parts

-- `part` gives what of the line stands in a part
module _ {A X : Type 0} (part : A → List (ℕ × X)) (parts : List A) (line : List X) (bag : SameBag (flat_map part parts) (placed_from 0 line)) where
  -- in one of the parts this stands, at this place of the line
  pub record Stands (n : ℕ) (x : X) (c : ℕ) (a : A) : Type 0 where
    pub has : slice_get parts c ≡ Some a
    pub index : ℕ
    pub stands : slice_get (part a) index ≡ Some (n, x)

  all_weigh : (t : ℕ × X → ℕ) → sum_by (λ a. sum_by t (part a)) parts ≡ sum_by t (placed_from 0 line)
  all_weigh t = sym (sum_flat_map t part parts) ∙ bag t

  pub in_line : (n : ℕ) (x : X) (c : ℕ) (a : A) → Stands n x c a → (y : X) × ((slice_get line n ≡ Some y) × IsAsHeavy x y)
  in_line n x c a s = stands_there line n x (λ t. (
      let one = has_at (part a) s.index (n, x) s.stands t in
      let all = has_at parts c a s.has (λ b. sum_by t (part b)) in
      let sum = all_weigh t in
      omega (arith, one, all, sum)))

  pub in_parts : (n : ℕ) (y : X) → slice_get line n ≡ Some y → (c : ℕ) × ((a : A) × ((x : X) × (Stands n x c a × IsAsHeavy x y)))
  in_parts n y is =
      let one : ℕ × X → ℕ = at_place n (λ _. 1) in
      let total = all_weigh one in
      let line_is = line_weighs n (λ _. 1) line in
      let here_is : weight (λ _. 1) (slice_get line n) ≡ 1 = ap (weight (λ _. 1)) is in
      let u = some_weighs (λ a. sum_by one (part a)) parts (omega (arith, total, line_is, here_is)) in
      let v = some_weighs one (part u.element) u.weighs in
      let s : Stands n v.element.1 u.index u.element = record { has = u.stands; index = v.index; stands = placed_there n (part u.element) v.index v.element v.stands v.weighs } in
      (u.index, (u.element, (v.element.1, (s, as_heavy (slice_get line n) v.element.1 y (in_line n v.element.1 u.index u.element s) is))))

  -- no place stands in two parts
  pub in_one : (n : ℕ) (x y : X) (c d : ℕ) (a b : A) → Stands n x c a → Stands n y d b → c < d → ⊥
  in_one n x y c d a b s r lt =
      let one : ℕ × X → ℕ = at_place n (λ _. 1) in
      let first = has_at (part a) s.index (n, x) s.stands one in
      let second = has_at (part b) r.index (n, y) r.stands one in
      let f : one (n, x) ≡ 1 = here n n (λ _. 1) x refl in
      let g : one (n, y) ≡ 1 = here n n (λ _. 1) y refl in
      let both = two_weigh (λ e. sum_by one (part e)) parts c d a b lt s.has r.has in
      let total = all_weigh one in
      let line_is = line_weighs n (λ _. 1) line in
      let few = at_most (slice_get line n) in
      omega (arith, first, second, f, g, both, total, line_is, few)
    where
      at_most : (o : Option X) → weight (λ _. 1) o ≤ 1
      at_most None = omega arith
      at_most (Some z) = omega arith
