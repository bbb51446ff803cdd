-- From bags to places.
use Rattle.std.proofs.Common.{ℕ, zero, suc, ◌<◌, ◌≤◌, ◌≡◌, inl, inr, Bool, true, cond, List, [], ◌∷◌, Some, ap, sym, ◌∙◌, arith}
use Rattle.std.specs.Prelude.{slice_get}
use Rattle.std.specs.List.{sum_by}
use Rattle.std.proofs.lemmas.List.Sums.{sum_by-cons}
use Rattle.std.proofs.lemmas.Bool.{cases_Bool}
use Rattle.codec_accounts.specs.Bags.{SameBag}

abbrev pub bit : Bool → ℕ
bit b = cond b 1 0

module _ {X : Type 0} (same : X → X → Bool) (itself : (x : X) → same x x ≡ true) (one : (x y : X) → same x y ≡ true → x ≡ y) where
  abbrev pub times : X → List X → ℕ
  times x l = sum_by (λ y. bit (same x y)) l

  stands_some : (x : X) (l : List X) (i : ℕ) → slice_get l i ≡ Some x → 1 ≤ times x l
  stands_some x [] i h = absurd cc
  stands_some x (y ∷ ys) zero h =
      let e : y ≡ x = cc in
      let c = sum_by-cons (λ z. bit (same x z)) y ys in
      let b : bit (same x y) ≡ 1 = ap (λ z. bit (same x z)) e ∙ ap bit (itself x) in
      omega (arith, c, b)
  stands_some x (y ∷ ys) (suc i) h =
      let c = sum_by-cons (λ z. bit (same x z)) y ys in
      let r = stands_some x ys i h in
      omega (arith, c, r)

  found : (x : X) (l : List X) → 1 ≤ times x l → (i : ℕ) × (slice_get l i ≡ Some x)
  found x [] h = absurd (omega (arith, h))
  found x (y ∷ ys) h = elim (cases_Bool (same x y)) [
    | inl here ↦ (zero, ap (λ z. Some z) (sym (one x y here)))
    | inr there ↦
        let c = sum_by-cons (λ z. bit (same x z)) y ys in
        let b : bit (same x y) ≡ 0 = ap bit there in
        let r = found x ys (omega (arith, h, c, b)) in
        (suc r.0, r.1)
  ]

  -- what stands in one stands in the other
  pub stands_too : (a b : List X) (i : ℕ) (x : X) → SameBag a b → slice_get a i ≡ Some x → (j : ℕ) × (slice_get b j ≡ Some x)
  stands_too a b i x bag at = found x b (let e = bag (λ y. bit (same x y)) in let s = stands_some x a i at in omega (arith, e, s))

  twice : (x : X) (l : List X) (i j : ℕ) → i < j → slice_get l i ≡ Some x → slice_get l j ≡ Some x → 2 ≤ times x l
  twice x [] i j lt h k = absurd cc
  twice x (y ∷ ys) i zero lt h k = absurd (omega (arith, lt))
  twice x (y ∷ ys) zero (suc j) lt h k =
      let e : y ≡ x = cc in
      let c = sum_by-cons (λ z. bit (same x z)) y ys in
      let b : bit (same x y) ≡ 1 = ap (λ z. bit (same x z)) e ∙ ap bit (itself x) in
      let r = stands_some x ys j k in
      omega (arith, c, b, r)
  twice x (y ∷ ys) (suc i) (suc j) lt h k =
      let c = sum_by-cons (λ z. bit (same x z)) y ys in
      let r = twice x ys i j (omega (arith, lt)) h k in
      omega (arith, c, r)

  -- what is called for once stands once
  pub stands_once : (a b : List X) (x : X) (i j : ℕ) → SameBag a b → times x b ≤ 1 → slice_get a i ≡ Some x → slice_get a j ≡ Some x → i < j → ⊥
  stands_once a b x i j bag few at there lt = let e = bag (λ y. bit (same x y)) in let t = twice x a i j lt at there in omega (arith, e, t, few)
