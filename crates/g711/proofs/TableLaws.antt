-- Tables, looked up.
use Rattle.std.proofs.Common.{w16, to_z, of_z, ℕ, ℤ, pos, ◌≡◌, ◌≤◌, ◌<◌, ◌^◌, ◌*◌, ◌+◌, zero, suc, true, List, [], ◌∷◌, length, get_or, map, arith, ap, ◌∙◌, add-zero, zero-add}
use mir.Val.{SFits}
use Rattle.std.proofs.lemmas.Int.{to_z-of_z}
use Rattle.std.proofs.lemmas.List.FromFn.{get_or-map-range_with_len}
use Rattle.std.proofs.lemmas.{Bool.and_parts, Bool.Decides.nat_tests}
use Rattle.std.specs.List.{range_with_len}
use Rattle.g711.specs.Tables.{is_top_bit, are_top_bits}

pub looked_up : (f : ℕ → ℤ) (values : List ℤ) (i : ℕ) → i < 256 → SFits w16 (get_or values i (pos 0)) → values ≡ map f (range_with_len 0 256) → to_z w16 (of_z w16 (get_or values i (pos 0))) ≡ f i
looked_up f values i h fits table =
    to_z-of_z w16 (get_or values i (pos 0)) fits ∙ ap (λ (xs : List ℤ). get_or xs i (pos 0)) table ∙ get_or-map-range_with_len f 0 256 i i (pos 0) h (omega arith)

-- what the table says of a number
top_at : (n i : ℕ) (tops : List ℕ) → are_top_bits n tops ≡ true → i < length tops → is_top_bit (n + i) (get_or tops i 0) ≡ true
top_at n i [] h l = absurd (omega (arith, l))
top_at n zero (t ∷ ts) h l = rw add-zero (and_parts (is_top_bit n t) (are_top_bits (n + 1) ts) h).0
top_at n (suc i) (t ∷ ts) h l = let q : n + suc i ≡ n + 1 + i = omega arith in rw q (top_at (n + 1) i ts (and_parts (is_top_bit n t) (are_top_bits (n + 1) ts) h).1 (omega (arith, l)))

pub top_of : (tops : List ℕ) (i : ℕ) → are_top_bits 0 tops ≡ true → i < length tops → 0 < i → (2 ^ get_or tops i 0 ≤ i) × (i < 2 * 2 ^ get_or tops i 0)
top_of tops i h l some = let here : is_top_bit i (get_or tops i 0) ≡ true = rw zero-add at (top_at 0 i tops h l) in grind (arith, nat_tests, here)
