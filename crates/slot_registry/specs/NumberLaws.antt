-- The first number that fails a test, and how many pass.
use Rattle.std.proofs.Common.{ℕ, ◌+◌, ◌<◌, ◌≤◌, ◌≡◌, Bool, true, false, cond, not, Some, None, refl, ap, sym, ◌∙◌, arith, zero, suc, inl, inr}
use Rattle.std.specs.List.{count_by, find, range_with_len}
use Rattle.std.proofs.lemmas.Bool.{cases_eq}
use Rattle.std.proofs.lemmas.List.Sums.{sum_by-cons}

none_from : (p : ℕ → Bool) (a n : ℕ) → ((m : ℕ) → a ≤ m → m < a + n → p m ≡ true) → find (λ m. not (p m)) (range_with_len a n) ≡ None
none_from p a zero h = refl
none_from p a (suc n) h =
    let here = h a (omega arith) (omega arith) in
    rw here (none_from p (a + 1) n (λ m low high. h m (omega arith) (omega arith)))

-- no number below n fails
pub find-all : (p : ℕ → Bool) (n : ℕ) → ((m : ℕ) → m < n → p m ≡ true) → find (λ m. not (p m)) (range_with_len 0 n) ≡ None
find-all p n h = none_from p 0 n (λ m low high. h m (omega arith))

abbrev one_if : Bool → ℕ
one_if b = cond b 1 0

count_from : (p : ℕ → Bool) (a n : ℕ) → ((m : ℕ) → a ≤ m → m < a + n → p m ≡ true) → count_by p (range_with_len a n) ≡ n
count_from p a zero h = refl
count_from p a (suc n) h =
    let here = ap one_if (h a (omega arith) (omega arith)) in
    let rest = count_from p (a + 1) n (λ m low high. h m (omega arith) (omega arith)) in
    let split = sum_by-cons (λ m. one_if (p m)) a (range_with_len (a + 1) n) in
    omega (arith, here, rest, split)

-- all n numbers pass
pub count_by-all : (p : ℕ → Bool) (n : ℕ) → ((m : ℕ) → m < n → p m ≡ true) → count_by p (range_with_len 0 n) ≡ n
count_by-all p n h = count_from p 0 n (λ m low high. h m (omega arith))

first_from : (p : ℕ → Bool) (a n k : ℕ) → a ≤ k → k < a + n → ((m : ℕ) → a ≤ m → m < k → p m ≡ true) → p k ≡ false → find (λ m. not (p m)) (range_with_len a n) ≡ Some k
first_from p a zero k low high before here = absurd (omega arith)
first_from p a (suc n) k low high before here =
    elim (cases_eq a k) [ inl same ↦ (let at : p a ≡ false = ap p same ∙ here in rw at (ap Some same)) | inr other ↦ (let at = before a (omega arith) (omega arith) in rw at (first_from p (a + 1) n k (omega arith) (omega arith) (λ m l. before m (omega arith)) here)) ]

-- the first number that fails
pub find-first : (p : ℕ → Bool) (n k : ℕ) → k < n → ((m : ℕ) → m < k → p m ≡ true) → p k ≡ false → find (λ m. not (p m)) (range_with_len 0 n) ≡ Some k
find-first p n k high before here = first_from p 0 n k (omega arith) (omega arith) (λ m l. before m) here

fails_from : (p : ℕ → Bool) (a n k : ℕ) → find (λ m. not (p m)) (range_with_len a n) ≡ Some k → p k ≡ false
fails_from p a zero k found = absurd cc
fails_from p a (suc n) k found =
    elim (p a) as (λ b. p a ≡ b → cond (not b) (Some a) (find (λ m. not (p m)) (range_with_len (a + 1) n)) ≡ Some k → p k ≡ false) [ false ↦ λ here first. (let same : a ≡ k = cc in ap p (sym same) ∙ here) | true ↦ λ here first. fails_from p (a + 1) n k first ] refl found

-- the number that is found fails
pub find_fails : (p : ℕ → Bool) (n k : ℕ) → find (λ m. not (p m)) (range_with_len 0 n) ≡ Some k → p k ≡ false
find_fails p n k found = fails_from p 0 n k found
