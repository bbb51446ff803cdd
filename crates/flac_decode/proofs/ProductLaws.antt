-- Sums of products.
use Rattle.std.proofs.Common.{◌≡◌, ℕ, suc, ◌+◌, ◌-◌, ◌*◌, ◌%◌, ◌^◌, ◌<◌, ◌≤◌, ℤ, pos, negsuc, List, ◌∷◌, length, take, drop, get_or, reverse, sym, ap, ◌∙◌, arith, length-take, get_or-take, drop-cons}
use Rattle.std.proofs.lemmas.List.{get_or-reverse, length-reverse, drop_all}
use Rattle.std.specs.Prelude.{◌+ℤ◌, ◌*ℤ◌, unsigned_abs}
use Rattle.std.proofs.lemmas.Int.{to_z-of_z, ints, unsigned_abs-mul}
use Rattle.std.proofs.lemmas.Nat.{one_shl, pow-add, mul-le}
use Rattle.std.proofs.Math.Nat.{pow-le-pow_right}
use Rattle.std.proofs.Math.IntN.{+ℤ_comm}
use mir.Val.{to_z, of_z, SFits}
use mir.Syntax.{w64}
use Rattle.flac_definitions.specs.Prediction.{sum_of_products}

pub fits_small : (z : ℤ) → unsigned_abs z ≤ 2 ^ 62 → SFits w64 z
fits_small (pos n) h = record { sfits = omega arith }
fits_small (negsuc n) h = record { sfits = omega arith }

pub abs_sum : (a b : ℤ) (m n : ℕ) → unsigned_abs a ≤ m → unsigned_abs b ≤ n → unsigned_abs (a +ℤ b) ≤ m + n
abs_sum a b m n h k = omega (arith, ints)

-- one more product fits
pub one_more : (sum p : ℤ) (j : ℕ) → unsigned_abs sum ≤ j * 2 ^ 46 → j < 32 → unsigned_abs p ≤ 2 ^ 46 → (to_z w64 (of_z w64 (sum +ℤ to_z w64 (of_z w64 p))) ≡ sum +ℤ p) × (unsigned_abs (sum +ℤ p) ≤ (j + 1) * 2 ^ 46)
one_more sum p j h l k =
    let small : unsigned_abs (sum +ℤ p) ≤ j * 2 ^ 46 + 2 ^ 46 = abs_sum sum p (j * 2 ^ 46) (2 ^ 46) h k in
    (ap (λ (x : ℤ). to_z w64 (of_z w64 (sum +ℤ x))) (to_z-of_z w64 p (fits_small p (omega arith))) ∙ to_z-of_z w64 (sum +ℤ p) (fits_small (sum +ℤ p) (omega arith)), omega arith)

-- the products from a place on
products_from : (cs past : List ℤ) (k : ℕ) → k < length cs → k < length past → sum_of_products (drop k cs) (drop k past) ≡ (get_or cs k (pos 0) *ℤ get_or past k (pos 0)) +ℤ sum_of_products (drop (suc k) cs) (drop (suc k) past)
products_from cs past k h l =
    ap (λ (xs : List ℤ). sum_of_products xs (drop k past)) (drop-cons cs k (pos 0) h) ∙ ap (λ (xs : List ℤ). sum_of_products (get_or cs k (pos 0) ∷ drop (suc k) cs) xs) (drop-cons past k (pos 0) l)

pub sum_start : (cs past : List ℤ) (n : ℕ) → length cs ≤ n → sum_of_products (drop n cs) (drop n past) ≡ pos 0
sum_start cs past n h = ap (λ (xs : List ℤ). sum_of_products xs (drop n past)) (drop_all n cs h)

-- the sum with the product of a coefficient and the sample that is as far back
pub next_sum : (cs samples : List ℤ) (place j k n : ℕ) (sum p : ℤ) → length cs ≡ n → k + j + 1 ≡ n → n ≤ place → place ≤ length samples → n ≤ 32
    → unsigned_abs (get_or cs k (pos 0)) ≤ 2 ^ 14 → unsigned_abs (get_or (take place samples) (place - 1 - k) (pos 0)) ≤ 2 ^ 32
    → sum ≡ sum_of_products (drop (n - j) cs) (drop (n - j) (reverse (take place samples))) → unsigned_abs sum ≤ j * 2 ^ 46
    → p ≡ to_z w64 (of_z w64 (get_or cs k (pos 0))) *ℤ to_z w64 (of_z w64 (get_or samples (place - 1 - k) (pos 0))) → unsigned_abs p ≤ 2 ^ 46
    → (to_z w64 (of_z w64 (sum +ℤ to_z w64 (of_z w64 p))) ≡ sum_of_products (drop (n - (j + 1)) cs) (drop (n - (j + 1)) (reverse (take place samples)))) × (unsigned_abs (to_z w64 (of_z w64 (sum +ℤ to_z w64 (of_z w64 p)))) ≤ (j + 1) * 2 ^ 46)
next_sum cs samples place j k n sum p lc kj hp there few hc hs e small ep sp =
    let c = get_or cs k (pos 0) in let s = get_or samples (place - 1 - k) (pos 0) in
    let past = reverse (take place samples) in
    let at : get_or (take place samples) (place - 1 - k) (pos 0) ≡ s = get_or-take place samples (place - 1 - k) (pos 0) (omega arith) in
    let lt : length (take place samples) ≡ place = omega (arith, length-take place samples) in
    let back : get_or past k (pos 0) ≡ s = get_or-reverse (take place samples) k (pos 0) (omega arith) ∙ ap (λ m. get_or (take place samples) (m - 1 - k) (pos 0)) lt ∙ at in
    let hs2 : unsigned_abs s ≤ 2 ^ 32 = omega (arith, hs, ap unsigned_abs at) in
    let prod : p ≡ c *ℤ s = ep ∙ ap (λ (x : ℤ). x *ℤ to_z w64 (of_z w64 s)) (to_z-of_z w64 c (fits_small c (omega arith))) ∙ ap (λ (x : ℤ). c *ℤ x) (to_z-of_z w64 s (fits_small s (omega arith))) in
    let one = one_more sum p j small (omega arith) sp in
    let rest = sum_of_products (drop (suc k) cs) (drop (suc k) past) in
    let next : sum ≡ rest = e ∙ ap (λ m. sum_of_products (drop m cs) (drop m past)) (let q : n - j ≡ suc k = omega arith in q) in
    let whole : to_z w64 (of_z w64 (sum +ℤ to_z w64 (of_z w64 p))) ≡ sum_of_products (drop (n - (j + 1)) cs) (drop (n - (j + 1)) past) =
    one.0 ∙ +ℤ_comm sum p ∙ ap (λ (x : ℤ). x +ℤ sum) (prod ∙ ap (λ (x : ℤ). c *ℤ x) (sym back)) ∙ ap (λ (x : ℤ). (c *ℤ get_or past k (pos 0)) +ℤ x) next
    ∙ sym (products_from cs past k (omega arith) (omega (arith, length-reverse (take place samples))))
    ∙ ap (λ m. sum_of_products (drop m cs) (drop m past)) (let q : k ≡ n - (j + 1) = omega arith in q) in
    (whole, omega (arith, ap unsigned_abs one.0, one.1))

pub small_cast : (n : ℕ) → n ≤ 2 ^ 33 → to_z w64 n ≡ pos n
small_cast n h = omega (arith, ints)

-- a sample times a power of two
pub scaled_value : (s : ℤ) (w d : ℕ) → SFits w64 s → 0 < d → d + w ≤ 33 → unsigned_abs s ≤ 2 ^ (d - 1)
    → (to_z w64 (of_z w64 s) *ℤ to_z w64 (1 * 2 ^ w % 2 ^ 64) ≡ s *ℤ pos (2 ^ w)) × (unsigned_abs (s *ℤ pos (2 ^ w)) ≤ 2 ^ (d + w - 1)) × (unsigned_abs (s *ℤ pos (2 ^ w)) ≤ 2 ^ 32)
scaled_value s w d f h l small =
    let p : 1 * 2 ^ w % 2 ^ 64 ≡ 2 ^ w = one_shl w 64 (omega arith) in
    let q : 2 ^ w ≤ 2 ^ 33 = pow-le-pow_right {n = 2} (omega arith) (let e : w ≤ 33 = omega arith in e) in
    let t : to_z w64 (2 ^ w) ≡ pos (2 ^ w) = small_cast (2 ^ w) q in
    let a : unsigned_abs (s *ℤ pos (2 ^ w)) ≡ unsigned_abs s * 2 ^ w = unsigned_abs-mul s (pos (2 ^ w)) in
    let m : 2 ^ (d - 1) * 2 ^ w ≡ 2 ^ (d + w - 1) = sym (pow-add 2 (d - 1) w) ∙ ap (λ n. 2 ^ n) (let e : d - 1 + w ≡ d + w - 1 = omega arith in e) in
    let b : unsigned_abs s * 2 ^ w ≤ 2 ^ (d - 1) * 2 ^ w = mul-le (unsigned_abs s) (2 ^ w) (2 ^ (d - 1)) (2 ^ w) small (omega arith) in
    let u : 2 ^ (d + w - 1) ≤ 2 ^ 32 = pow-le-pow_right {n = 2} (omega arith) (let e : d + w - 1 ≤ 32 = omega arith in e) in (
      ap (λ (x : ℤ). x *ℤ to_z w64 (1 * 2 ^ w % 2 ^ 64)) (to_z-of_z w64 s f) ∙ ap (λ (n : ℕ). s *ℤ to_z w64 n) p ∙ ap (λ (x : ℤ). s *ℤ x) t,
      omega (arith, a, b, m),
      omega (arith, a, b, m, u),
    )
