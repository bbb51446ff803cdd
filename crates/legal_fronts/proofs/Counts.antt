-- How many numbers below one pass a test, and how that changes.
use Rattle.std.proofs.Common.{ℕ, zero, suc, ◌+◌, ◌<◌, ◌≡◌, ◌≢◌, Bool, true, false, cond, refl, ap, sym, ◌∙◌, arith, inl, inr}
use Rattle.std.proofs.lemmas.Bool.{cases_eq}
use Rattle.wc_pool.specs.Bag.{count_below}

abbrev pub one_if : Bool → ℕ
one_if b = cond b 1 0

pub count_same : (p q : ℕ → Bool) (n : ℕ) → ((k : ℕ) → k < n → p k ≡ q k) → count_below p n ≡ count_below q n
count_same p q zero h = refl
count_same p q (suc n) h =
    let rest = count_same p q n (λ k lt. h k (omega arith)) in
    let here = ap one_if (h n (omega arith)) in
    omega (arith, rest, here)

-- one number passes no more
pub count_less : (p q : ℕ → Bool) (n k : ℕ) → k < n → p k ≡ true → q k ≡ false → ((j : ℕ) → j ≢ k → p j ≡ q j) → count_below q n + 1 ≡ count_below p n
count_less p q zero k lt holds none others = absurd (omega arith)
count_less p q (suc n) k lt holds none others =
    elim (cases_eq k n) [
      | inl same ↦
          let rest = count_same p q n (λ j l. others j (λ e. omega arith)) in
          let here = ap one_if (ap p (sym same) ∙ holds) in
          let there = ap one_if (ap q (sym same) ∙ none) in
          omega (arith, rest, here, there)
      | inr apart ↦
          let rest = count_less p q n k (omega arith) holds none others in
          let here = ap one_if (others n (λ e. apart (sym e))) in
          omega (arith, rest, here)
    ]

-- the next number passes or not
pub count_more : (p : ℕ → Bool) (n : ℕ) (b : Bool) → p n ≡ b → count_below p (suc n) ≡ count_below p n + one_if b
count_more p n b is = let here = ap one_if is in omega (arith, here)
