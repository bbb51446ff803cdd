-- Residuals, order by order.
use Rattle.std.proofs.Common.{ℕ, zero, suc, ℤ, pos, ◌≡◌, ◌<◌, ◌≤◌, ◌+◌, ◌-◌, ◌*◌, ◌+ℤ◌, ◌-ℤ◌, ◌*ℤ◌, List, ◌∷◌, length, map, refl, ap, sym, subst, ◌∙◌, arith, add-one}
use Rattle.std.specs.List.{range_with_len}
use Rattle.std.proofs.lemmas.Int.{ints}
use Rattle.std.proofs.lemmas.List.FromFn.{get_or-map-range_with_len, length-map-range_with_len}
use Rattle.flac_definitions.specs.FixedPredictors.{at, residual_at, residuals}
use Rattle.flac_subframes.specs.Search.{differences, IsWithin, AreWithin}

map_same : {X : Type 0} (f g : ℕ → X) (a m : ℕ) → ((j : ℕ) → a ≤ j → j < a + m → f j ≡ g j) → map f (range_with_len a m) ≡ map g (range_with_len a m)
map_same {X} f g a zero h = refl
map_same {X} f g a (suc m) h =
    let others : map f (range_with_len (a + 1) m) ≡ map g (range_with_len (a + 1) m) = map_same f g (a + 1) m (λ j l e. h j (omega (arith, l)) (omega (arith, e))) in
    ap (λ (x : X). x ∷ map f (range_with_len (a + 1) m)) (h a (omega arith) (omega arith)) ∙ ap (λ (l : List X). g a ∷ l) others

lin0 : (a b : ℤ) → (a -ℤ pos 0) -ℤ (b -ℤ pos 0) ≡ a -ℤ b
lin0 a b = omega (arith, ints)

lin1 : (a b c : ℤ) → (a -ℤ b) -ℤ (b -ℤ c) ≡ a -ℤ ((pos 2 *ℤ b) -ℤ c)
lin1 a b c = omega (arith, ints)

lin2 : (a b c d : ℤ) → (a -ℤ ((pos 2 *ℤ b) -ℤ c)) -ℤ (b -ℤ ((pos 2 *ℤ c) -ℤ d)) ≡ a -ℤ (((pos 3 *ℤ b) -ℤ (pos 3 *ℤ c)) +ℤ d)
lin2 a b c d = omega (arith, ints)

lin3 : (a b c d e : ℤ) → (a -ℤ (((pos 3 *ℤ b) -ℤ (pos 3 *ℤ c)) +ℤ d)) -ℤ (b -ℤ (((pos 3 *ℤ c) -ℤ (pos 3 *ℤ d)) +ℤ e)) ≡ a -ℤ ((((pos 4 *ℤ b) -ℤ (pos 6 *ℤ c)) +ℤ (pos 4 *ℤ d)) -ℤ e)
lin3 a b c d e = omega (arith, ints)

-- with the sample before one written as a place less
pub step : (o : ℕ) (xs : List ℤ) (i : ℕ) → o ≤ 3 → residual_at o xs i -ℤ residual_at o xs (i - 1) ≡ residual_at (suc o) xs i
step zero xs i l = lin0 (at xs i) (at xs (i - 1))
step (suc zero) xs i l =
    let two : i - 1 - 1 ≡ i - 2 = omega arith in
    ap (λ (k : ℕ). (at xs i -ℤ at xs (i - 1)) -ℤ (at xs (i - 1) -ℤ at xs k)) two ∙ lin1 (at xs i) (at xs (i - 1)) (at xs (i - 2))
step (suc (suc zero)) xs i l =
    let two : i - 1 - 1 ≡ i - 2 = omega arith in
    let three : i - 1 - 2 ≡ i - 3 = omega arith in
    ap (λ (k : ℕ). residual_at 2 xs i -ℤ (at xs (i - 1) -ℤ ((pos 2 *ℤ at xs k) -ℤ at xs (i - 1 - 2)))) two
    ∙ (ap (λ (k : ℕ). residual_at 2 xs i -ℤ (at xs (i - 1) -ℤ ((pos 2 *ℤ at xs (i - 2)) -ℤ at xs k))) three ∙ lin2 (at xs i) (at xs (i - 1)) (at xs (i - 2)) (at xs (i - 3)))
step (suc (suc (suc zero))) xs i l =
    let two : i - 1 - 1 ≡ i - 2 = omega arith in
    let three : i - 1 - 2 ≡ i - 3 = omega arith in
    let four : i - 1 - 3 ≡ i - 4 = omega arith in
    ap (λ (k : ℕ). residual_at 3 xs i -ℤ (at xs (i - 1) -ℤ (((pos 3 *ℤ at xs k) -ℤ (pos 3 *ℤ at xs (i - 1 - 2))) +ℤ at xs (i - 1 - 3)))) two
    ∙ (ap (λ (k : ℕ). residual_at 3 xs i -ℤ (at xs (i - 1) -ℤ (((pos 3 *ℤ at xs (i - 2)) -ℤ (pos 3 *ℤ at xs k)) +ℤ at xs (i - 1 - 3)))) three
    ∙ (ap (λ (k : ℕ). residual_at 3 xs i -ℤ (at xs (i - 1) -ℤ (((pos 3 *ℤ at xs (i - 2)) -ℤ (pos 3 *ℤ at xs (i - 3))) +ℤ at xs k))) four ∙ lin3 (at xs i) (at xs (i - 1)) (at xs (i - 2)) (at xs (i - 3)) (at xs (i - 4))))
step (suc (suc (suc (suc o)))) xs i l = absurd (omega (arith, l))

pub length_residuals : (o : ℕ) (xs : List ℤ) → length (residuals o xs) ≡ length xs - o
length_residuals o xs = length-map-range_with_len (λ (j : ℕ). residual_at o xs (o + j)) 0 (length xs - o)

residual_there : (o : ℕ) (xs : List ℤ) (j : ℕ) → j < length xs - o → at (residuals o xs) j ≡ residual_at o xs (o + j)
residual_there o xs j l = get_or-map-range_with_len (λ (j : ℕ). residual_at o xs (o + j)) 0 (length xs - o) j j (pos 0) l (omega arith)

-- the differences of neighbours in a residual are the residual of the next order
pub next_residuals : (o : ℕ) (xs : List ℤ) → o ≤ 3 → differences (residuals o xs) ≡ residuals (o + 1) xs
next_residuals o xs few =
    let n = length xs - (o + 1) in
    let count : length (residuals o xs) - 1 ≡ n = omega (arith, length_residuals o xs) in
    let f : ℕ → ℤ = λ (j : ℕ). at (residuals o xs) (j + 1) -ℤ at (residuals o xs) j in
    let g : ℕ → ℤ = λ (j : ℕ). residual_at (o + 1) xs (o + 1 + j) in
    ap (λ (m : ℕ). map f (range_with_len 0 m)) count ∙ map_same f g 0 n (λ j z l.
    let i = o + 1 + j in
    let here : at (residuals o xs) (j + 1) ≡ residual_at o xs i = residual_there o xs (j + 1) (omega (arith, l)) ∙ ap (residual_at o xs) (omega arith) in
    let before : at (residuals o xs) j ≡ residual_at o xs (i - 1) = residual_there o xs j (omega (arith, l)) ∙ ap (residual_at o xs) (omega arith) in
    ap (λ (x : ℤ). x -ℤ at (residuals o xs) j) here ∙ (ap (λ (x : ℤ). residual_at o xs i -ℤ x) before ∙ (step o xs i few ∙ ap (λ (k : ℕ). residual_at k xs i) (sym (add-one o)))))

pub difference_within : (m : ℕ) (a b : ℤ) → IsWithin m a → IsWithin m b → IsWithin (2 * m) (a -ℤ b)
difference_within m a b p q = record { low = omega (arith, ints, p.low, q.high); high = omega (arith, ints, p.high, q.low) }

pub differences_within : (m : ℕ) (xs : List ℤ) → AreWithin m xs → AreWithin (2 * m) (differences xs)
differences_within m xs w = λ j l.
    let n : length (differences xs) ≡ length xs - 1 = length-map-range_with_len (λ (j : ℕ). at xs (j + 1) -ℤ at xs j) 0 (length xs - 1) in
    let there : at (differences xs) j ≡ at xs (j + 1) -ℤ at xs j = get_or-map-range_with_len (λ (j : ℕ). at xs (j + 1) -ℤ at xs j) 0 (length xs - 1) j j (pos 0) (omega (arith, l, n)) (omega arith) in
    subst (λ (v : ℤ). IsWithin (2 * m) v) (sym there) (difference_within m (at xs (j + 1)) (at xs j) (w (j + 1) (omega (arith, l, n))) (w j (omega (arith, l, n))))
