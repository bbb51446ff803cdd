-- Laws of clocks with a list of moments.
use Rattle.std.proofs.Common.{ℕ, zero, suc, ◌+◌, ◌≡◌, ◌||◌, ◌==◌, Bool, true, false, cond, inl, inr, List, [], ◌∷◌, ◌++◌, Some, None, min, refl, ap, nat_lt, arith}
use Rattle.std.specs.Prelude.{slice_get, unwrap_or}
use Rattle.work_moments.specs.Moments.{is_among, Behind, answer_of, answers_of, gave_of}

same_is : (n : ℕ) (b : Bool) → n == n || b ≡ true
same_is n b = grind arith

or_right : (a b : Bool) → b ≡ true → a || b ≡ true
or_right true b e = refl
or_right false b e = e

or_front : (a b c : Bool) → a || c ≡ true → a || (b || c) ≡ true
or_front true b c e = refl
or_front false true c e = refl
or_front false false c e = e

-- an answer is the last moment, or one of the list
pub is_given : (d : ℕ) (moments : List ℕ) (n : ℕ) → is_among (unwrap_or (slice_get moments n) d) (d ∷ moments) ≡ true
is_given d [] n = same_is d false
is_given d (m ∷ ms) zero = or_right (d == m) (m == m || is_among m ms) (same_is m (is_among m ms))
is_given d (m ∷ ms) (suc n) =
    let x : ℕ = unwrap_or (slice_get ms n) d in
    or_front (d == x) (m == x) (is_among x ms) (is_given d ms n)

told_if : (old new : Bool) (a b : List ℕ) (x : List ℕ) → (old ≡ false → new ≡ false) → (old ≡ true → new ≡ true → b ≡ a ++ x) → Behind (cond old (Some a) None) x (cond new (Some b) None)
told_if true true a b x none more = inr (ap (λ (l : List ℕ). Some l) (more refl refl))
told_if true false a b x none more = inl refl
told_if false true a b x none more = absurd (cc (none refl))
told_if false false a b x none more = refl

-- one answer more
pub one_more : (moments : List ℕ) (n now : ℕ) → now ≡ min (n + 1) 18446744073709551615
    → Behind (gave_of moments n) (answer_of moments n ∷ []) (gave_of moments now)
one_more moments n now is = told_if (nat_lt n 18446744073709551615) (nat_lt now 18446744073709551615) (answers_of moments n) (answers_of moments now) (answer_of moments n ∷ [])
    (λ e. grind (arith, is, e))
    (λ e f. let next : now ≡ suc n = grind (arith, is, e, f) in ap (answers_of moments) next)
