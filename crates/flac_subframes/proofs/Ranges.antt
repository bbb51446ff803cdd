-- Residuals in range.
use Rattle.std.proofs.Common.{ℕ, zero, suc, ℤ, pos, negsuc, ◌≡◌, ◌<◌, ◌≤◌, ◌+◌, ◌-◌, ◌*◌, ◌^◌, ◌-ℤ◌, ◌<ℤ◌, ◌≤ℤ◌, Bool, true, false, cond, List, [], ◌∷◌, length, refl, ap, sym, ◌∙◌, add-one, arith, lit<}
use Rattle.std.proofs.Math.Nat.{pow-le-pow_right, pow-suc}
use Rattle.std.proofs.lemmas.Bool.{lt-ltb, le-ltb}
use Rattle.std.proofs.lemmas.Int.{ints}
use Rattle.std.proofs.lemmas.List.FromFn.{fill_by_all, get_or-map-range_with_len, length-map-range_with_len}
use Rattle.flac_definitions.specs.FixedPredictors.{at, residual_at, residuals, is_in_range, are_in_range}
use Rattle.flac_subframes.specs.Search.{IsWithin, AreWithin}

less_none : (a : ℤ) → a ≡ a -ℤ pos 0
less_none a = omega (arith, ints)

pub residual_none : (xs : List ℤ) → xs ≡ residuals 0 xs
residual_none xs =
    fill_by_all (λ (j : ℕ). residual_at 0 xs (0 + j)) xs (length xs - 0) (pos 0) (omega arith) (λ k l.
    let here : 0 + k ≡ k = omega arith in
    ap (at xs) (sym here) ∙ less_none (at xs (0 + k)))

pub bound_fits : (o : ℕ) → o ≤ 3 → 2 ^ 25 * 2 ^ o ≤ 2 ^ 29
bound_fits o l = let up : 2 ^ o ≤ 2 ^ 3 = pow-le-pow_right (lit< tt) l in omega (arith, up)

pub bound_more : (o b : ℕ) → b ≡ 2 ^ 25 * 2 ^ o → b * 2 ≡ 2 ^ 25 * 2 ^ (o + 1)
bound_more o b e = omega (arith, e, pow-suc 2 o, ap (λ (x : ℕ). 2 ^ x) (add-one o))

pub value_in_range : (v : ℤ) → IsWithin (2 ^ 31 - 1) v → is_in_range v ≡ true
value_in_range (pos n) h = lt-ltb (2 * n) (2 ^ 32 - 1) (omega (arith, ints, h.high))
value_in_range (negsuc n) h = lt-ltb (2 * n + 1) (2 ^ 32 - 1) (omega (arith, ints, h.low))

pub value_above : (v : ℤ) → pos (2 ^ 31 - 1) <ℤ v → is_in_range v ≡ false
value_above (pos n) h = le-ltb (2 * n) (2 ^ 32 - 1) (omega (arith, ints, h))
value_above (negsuc n) h = absurd (omega (arith, ints, h))

pub value_below : (v : ℤ) → v <ℤ negsuc (2 ^ 31 - 2) → is_in_range v ≡ false
value_below (pos n) h = absurd (omega (arith, ints, h))
value_below (negsuc n) h = le-ltb (2 * n + 1) (2 ^ 32 - 1) (omega (arith, ints, h))

pub all_in_range : (xs : List ℤ) → ((j : ℕ) → j < length xs → is_in_range (at xs j) ≡ true) → are_in_range xs ≡ true
all_in_range [] h = refl
all_in_range (x ∷ xs) h =
    ap (λ (t : Bool). cond t (are_in_range xs) false) (h 0 (omega arith)) ∙ all_in_range xs (λ j l. h (suc j) (omega (arith, l)))

both_false : (t : Bool) → cond t false false ≡ false
both_false true = refl
both_false false = refl

pub one_out_of_range : (xs : List ℤ) (j : ℕ) → j < length xs → is_in_range (at xs j) ≡ false → are_in_range xs ≡ false
one_out_of_range [] j l e = absurd (omega (arith, l))
one_out_of_range (x ∷ xs) zero l e = ap (λ (t : Bool). cond t (are_in_range xs) false) e
one_out_of_range (x ∷ xs) (suc j) l e = ap (λ (t : Bool). cond (is_in_range x) t false) (one_out_of_range xs j (omega (arith, l)) e) ∙ both_false (is_in_range x)

pub wider : (m n : ℕ) (v : ℤ) → m ≤ n → IsWithin m v → IsWithin n v
wider m n v l h = record { low = omega (arith, ints, h.low, l); high = omega (arith, ints, h.high, l) }

pub within_range : (m : ℕ) (xs : List ℤ) → m ≤ 2 ^ 31 - 1 → AreWithin m xs → are_in_range xs ≡ true
within_range m xs l h = all_in_range xs (λ j k. value_in_range (at xs j) (wider m (2 ^ 31 - 1) (at xs j) l (h j k)))

pub bound_at_end : (o b : ℕ) → o ≤ 4 → b ≡ 2 ^ 25 * 2 ^ o → b ≤ 2 ^ 31 - 1
bound_at_end o b l e = let up : 2 ^ o ≤ 2 ^ 4 = pow-le-pow_right (lit< tt) l in omega (arith, up, e)

pub residual_there : (o : ℕ) (xs : List ℤ) (j : ℕ) → j < length xs - o → at (residuals o xs) j ≡ residual_at o xs (o + j)
residual_there o xs j l = get_or-map-range_with_len (λ (j : ℕ). residual_at o xs (o + j)) 0 (length xs - o) j j (pos 0) l (omega arith)

pub residual_count : (o : ℕ) (xs : List ℤ) → length (residuals o xs) ≡ length xs - o
residual_count o xs = length-map-range_with_len (λ (j : ℕ). residual_at o xs (o + j)) 0 (length xs - o)

pub value_inside : (v : ℤ) → negsuc (2 ^ 31 - 2) ≤ℤ v → v ≤ℤ pos (2 ^ 31 - 1) → is_in_range v ≡ true
value_inside (pos n) l h = lt-ltb (2 * n) (2 ^ 32 - 1) (omega (arith, ints, h))
value_inside (negsuc n) l h = lt-ltb (2 * n + 1) (2 ^ 32 - 1) (omega (arith, ints, l))

pub whole_range : (o : ℕ) (xs : List ℤ) → ((k : ℕ) → k < length xs - o → is_in_range (residual_at o xs (o + k)) ≡ true) → are_in_range (residuals o xs) ≡ true
whole_range o xs h = all_in_range (residuals o xs) (λ k l.
    let less : k < length xs - o = omega (arith, l, residual_count o xs) in
    ap is_in_range (residual_there o xs k less) ∙ h k less)

pub out_of_range : (o : ℕ) (xs : List ℤ) (k : ℕ) (v : ℤ) → k < length xs - o → v ≡ residual_at o xs (o + k) → is_in_range v ≡ false → are_in_range (residuals o xs) ≡ false
out_of_range o xs k v less e f =
    one_out_of_range (residuals o xs) k (omega (arith, less, residual_count o xs)) (ap is_in_range (residual_there o xs k less ∙ sym e) ∙ f)
