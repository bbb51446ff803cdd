-- Partition orders that fit.
use Rattle.std.proofs.Common.{ℕ, zero, suc, ◌≡◌, ◌<◌, ◌≤◌, ◌+◌, ◌-◌, ◌*◌, ◌/◌, ◌%◌, ◌^◌, ◌==◌, ◌&&◌, Bool, true, false, cond, List, [], ◌∷◌, ◌++◌, nat_lt, refl, ap, sym, subst, ◌∙◌, arith, append-nil, add-zero, zero-add, eqb, ltb, min, inl, inr, lit<}
use Rattle.std.specs.List.{filter, range_with_len}
use Rattle.std.proofs.Math.Nat.{div-eq_of_lt, pow-le-pow_right, div-add-mod, mul-div_right, mul-mod_right, mul-le-mul_right}
use Rattle.std.proofs.lemmas.Bool.{cases_lt, eqb-true, ltb-true, eq-eqb, lt-ltb, le-ltb}
use Rattle.std.proofs.lemmas.Nat.{pow_pos, pow-add}
use Rattle.std.proofs.lemmas.List.Elements.{filter-append}
use Rattle.flac_definitions.specs.Plans.{fits, finest, first_least, plan_bits, best_partition}
use Rattle.std.proofs.Math.Bool.{and-false}

no : false ≡ true → ⊥
no e = cc

both : (a b : Bool) → (a && b) ≡ true → (a ≡ true) × (b ≡ true)
both true true e = (refl, refl)
both true false e = absurd (no e)
both false b e = absurd (no e)

pub fits_whole : (block order p : ℕ) → fits block order p ≡ true → (2 ^ p * (block / 2 ^ p) ≡ block) × (order < block / 2 ^ p)
fits_whole block order p e =
    let parts = both (block % 2 ^ p == 0) (nat_lt order (block / 2 ^ p)) e in
    (omega (arith, div-add-mod block (2 ^ p), eqb-true (block % 2 ^ p) 0 parts.0), ltb-true order (block / 2 ^ p) parts.1)

pub fits_lower : (block order p q : ℕ) → q ≤ p → fits block order p ≡ true → fits block order q ≡ true
fits_lower block order p q less e =
    let s = block / 2 ^ p in
    let w = fits_whole block order p e in
    let step : p ≡ q + (p - q) = omega (arith, less) in
    let power : 2 ^ p ≡ 2 ^ q * 2 ^ (p - q) = ap (λ (x : ℕ). 2 ^ x) step ∙ pow-add 2 q (p - q) in
    let whole : 2 ^ q * (2 ^ (p - q) * s) ≡ block = omega (arith, w.0, ap (λ (x : ℕ). x * s) power) in
    let none : block % 2 ^ q ≡ 0 = ap (λ (x : ℕ). x % 2 ^ q) (sym whole) ∙ mul-mod_right (2 ^ q) (2 ^ (p - q) * s) in
    let size : block / 2 ^ q ≡ 2 ^ (p - q) * s = ap (λ (x : ℕ). x / 2 ^ q) (sym whole) ∙ mul-div_right (2 ^ (p - q) * s) {m = 2 ^ q} (pow_pos q) in
    let more : 1 * s ≤ 2 ^ (p - q) * s = mul-le-mul_right s (omega (arith, pow_pos (p - q))) in
    rw (eq-eqb (block % 2 ^ q) 0 none, lt-ltb order (block / 2 ^ q) (omega (arith, size, more, w.1))) refl

-- one more number behind
pub range_more : (a n j : ℕ) → a + n ≡ j → range_with_len a (n + 1) ≡ range_with_len a n ++ j ∷ []
range_more a zero j e = (let s : 0 + 1 ≡ suc 0 = omega arith in ap (λ (k : ℕ). range_with_len a k) s) ∙ ap (λ (x : ℕ). x ∷ []) (sym (add-zero a) ∙ e)
range_more a (suc n) j e =
    (let s : suc n + 1 ≡ suc (n + 1) = omega arith in ap (λ (k : ℕ). range_with_len a k) s) ∙ ap (λ (l : List ℕ). a ∷ l) (range_more (a + 1) n j (omega (arith, e)))

all_kept : (test : ℕ → Bool) (a n : ℕ) → ((j : ℕ) → j < a + n → test j ≡ true) → filter test (range_with_len a n) ≡ range_with_len a n
all_kept test a zero h = refl
all_kept test a (suc n) h =
    let rest : filter test (range_with_len (a + 1) n) ≡ range_with_len (a + 1) n = all_kept test (a + 1) n (λ j l. h j (omega (arith, l))) in
    ap (λ (t : Bool). cond t (a ∷ filter test (range_with_len (a + 1) n)) (filter test (range_with_len (a + 1) n))) (h a (omega arith)) ∙ ap (λ (l : List ℕ). a ∷ l) rest

order_zero : (block order : ℕ) → order < block → fits block order 0 ≡ true
order_zero block order h =
    let whole : block % 2 ^ 0 ≡ 0 = omega arith in
    let size : block / 2 ^ 0 ≡ block = omega arith in
    rw (eq-eqb (block % 2 ^ 0) 0 whole, lt-ltb order (block / 2 ^ 0) (omega (arith, size, h))) refl

finest_next : (b o p : ℕ) → finest b o (suc p) ≡ cond (fits b o (suc p)) (suc p) (finest b o p)
unfolding finest
finest_next b o p = refl

finest_zero : (b o : ℕ) → finest b o 0 ≡ 0
unfolding finest
finest_zero b o = refl

fitting_by : (block order most : ℕ) (t : Bool) → fits block order (suc most) ≡ t → filter (fits block order) (range_with_len 0 (most + 1)) ≡ range_with_len 0 (finest block order most + 1)
    → filter (fits block order) (range_with_len 0 (suc most + 1)) ≡ range_with_len 0 (cond t (suc most) (finest block order most) + 1)
fitting_by block order most true e h = all_kept (fits block order) 0 (suc most + 1) (λ j l. fits_lower block order (suc most) j (omega (arith, l)) e)
fitting_by block order most false e h =
    let here : range_with_len 0 (suc most + 1) ≡ range_with_len 0 (most + 1) ++ suc most ∷ [] = range_more 0 (suc most) (suc most) (zero-add (suc most)) ∙ ap (λ (k : ℕ). range_with_len 0 k ++ suc most ∷ []) (let s : suc most ≡ most + 1 = omega arith in s) in
    let last : filter (fits block order) (suc most ∷ []) ≡ [] = ap (λ (t : Bool). cond t (suc most ∷ []) []) e in
    ap (filter (fits block order)) here ∙ (filter-append (fits block order) (range_with_len 0 (most + 1)) (suc most ∷ [])
    ∙ (ap (λ (l : List ℕ). filter (fits block order) (range_with_len 0 (most + 1)) ++ l) last ∙ (append-nil (filter (fits block order) (range_with_len 0 (most + 1))) ∙ h)))

-- those that fit are all up to the finest
pub fitting_orders : (block order most : ℕ) → order < block → filter (fits block order) (range_with_len 0 (most + 1)) ≡ range_with_len 0 (finest block order most + 1)
fitting_orders block order zero h =
    all_kept (fits block order) 0 (0 + 1) (λ j l. subst (λ (k : ℕ). fits block order k ≡ true) (let s : 0 ≡ j = omega (arith, l) in s) (order_zero block order h))
    ∙ ap (λ (k : ℕ). range_with_len 0 (k + 1)) (sym (finest_zero block order))
fitting_orders block order (suc most) h =
    fitting_by block order most (fits block order (suc most)) refl (fitting_orders block order most h) ∙ ap (λ (k : ℕ). range_with_len 0 (k + 1)) (sym (finest_next block order most))

too_fine : (block order p : ℕ) → block < 2 ^ p → fits block order p ≡ false
too_fine block order p h =
    let none : block / 2 ^ p ≡ 0 = div-eq_of_lt h in
    ap (λ (t : Bool). eqb (block % 2 ^ p) 0 && t) (ap (λ (k : ℕ). ltb order k) none ∙ le-ltb order 0 (omega arith)) ∙ and-false (eqb (block % 2 ^ p) 0)

finest_beyond : (block order most : ℕ) → block < 2 ^ 16 → 15 ≤ most → finest block order most ≡ finest block order 15
finest_beyond block order zero h l = absurd (omega (arith, l))
finest_beyond block order (suc m) h l = elim (cases_lt m 15) [
  | inl s ↦ (let e : suc m ≡ 15 = omega (arith, s, l) in ap (finest block order) e)
  | inr g ↦ (
      let up : 2 ^ 16 ≤ 2 ^ suc m = pow-le-pow_right (lit< tt) (let q : 16 ≤ suc m = omega (arith, g) in q) in
      finest_next block order m ∙ (ap (λ (t : Bool). cond t (suc m) (finest block order m)) (too_fine block order (suc m) (omega (arith, h, up))) ∙ finest_beyond block order m h g))
]

-- no partition order above 15 fits
pub finest_cut : (block order most : ℕ) → block ≤ 65535 → finest block order (min most 15) ≡ finest block order most
finest_cut block order most h = elim (cases_lt most 15) [
  | inl s ↦ (let e : min most 15 ≡ most = omega (arith, s) in ap (finest block order) e)
  | inr g ↦ (let e : min most 15 ≡ 15 = omega (arith, g) in ap (finest block order) e ∙ sym (finest_beyond block order most (omega (arith, h)) g))
]

pub partition_cut : (block order most : ℕ) (zs : List ℕ) → block ≤ 65535 → best_partition block order (min most 15) zs ≡ best_partition block order most zs
partition_cut block order most zs h = ap (first_least (plan_bits block order zs)) (finest_cut block order most h)

-- ---- predictors of fewer samples

pub fits_for : (block o order p : ℕ) → fits block o p ≡ true → order < block / 2 ^ p → fits block order p ≡ true
fits_for block o order p e h = (let parts = both (block % 2 ^ p == 0) (nat_lt o (block / 2 ^ p)) e in rw (parts.0, lt-ltb order (block / 2 ^ p) h) refl)

most_by : (block order p : ℕ) (t : Bool) → finest block order p ≤ p → cond t (suc p) (finest block order p) ≤ suc p
most_by block order p true h = omega arith
most_by block order p false h = omega (arith, h)

pub finest_most : (block order most : ℕ) → finest block order most ≤ most
finest_most block order zero = omega (arith, finest_zero block order)
finest_most block order (suc p) = subst (λ (k : ℕ). k ≤ suc p) (sym (finest_next block order p)) (most_by block order p (fits block order (suc p)) (finest_most block order p))

fewer_by : (block o order p : ℕ) (t u : Bool) → (t ≡ true → u ≡ true) → finest block order p ≤ finest block o p → cond t (suc p) (finest block order p) ≤ cond u (suc p) (finest block o p)
fewer_by block o order p true true same h = omega arith
fewer_by block o order p true false same h = absurd (no (same refl))
fewer_by block o order p false true same h = omega (arith, finest_most block order p)
fewer_by block o order p false false same h = h

-- a partition order that fits a predictor of more samples fits one of fewer
pub finest_fewer : (block o order most : ℕ) → o ≤ order → finest block order most ≤ finest block o most
finest_fewer block o order zero less = omega (arith, finest_zero block order, finest_zero block o)
finest_fewer block o order (suc p) less =
    subst (λ (k : ℕ). k ≤ finest block o (suc p)) (sym (finest_next block order p))
    (subst (λ (k : ℕ). cond (fits block order (suc p)) (suc p) (finest block order p) ≤ k) (sym (finest_next block o p))
    (fewer_by block o order p (fits block order (suc p)) (fits block o (suc p)) (λ e. fits_for block order o (suc p) e (omega (arith, less, (fits_whole block order (suc p) e).1))) (finest_fewer block o order p less)))
