-- A search for a place at which the size falls.
use Rattle.std.proofs.Common.{ℕ, zero, suc, ◌≡◌, ◌+◌, ◌<◌, ◌&&◌, Bool, true, false, cond, List, [], ◌∷◌, Some, None, refl, sym, subst, ◌∙◌, arith}
use Rattle.std.specs.Prelude.{nat_lt}
use Rattle.std.proofs.lemmas.Bool.{and_parts, lt-ltb, ltb-true}
use Rattle.wc_base.specs.{Options.some_same}
use Rattle.codec_laws.specs.declared.sight.Sight.{Sight}
use Rattle.codec_laws.specs.Sights.{falls, falls_from}
use Rattle.codec_laws.specs.Laws.{IsFall, FallsBetween}
use Rattle.codec_laws.specs.Seen.{fall_from}

-- the place that is found, by how far it is from the first
record Found (i j place size k : ℕ) (xs : List Sight) : Type 0 where
  far : ℕ
  at : k ≡ place + far
  after : i < k
  before : k < j
  falls_there : falls_from size xs far ≡ true

found : (xs : List Sight) (i j place size k : ℕ) → fall_from i j place size xs ≡ Some k → Found i j place size k xs
found [] i j place size k h = absurd cc
found (x ∷ xs) i j place size k h = by (nat_lt i place && nat_lt place j && falls size x) refl h (found xs i j (place + 1) x.size k)
  where
    by : (b : Bool) → (nat_lt i place && nat_lt place j && falls size x) ≡ b → cond b (Some place) (fall_from i j (place + 1) x.size xs) ≡ Some k → (fall_from i j (place + 1) x.size xs ≡ Some k → Found i j (place + 1) x.size k xs) → Found i j place size k (x ∷ xs)
    by true is h rest =
        let same : place ≡ k = some_same place k h in
        let both = and_parts (nat_lt i place && nat_lt place j) (falls size x) is in
        let places = and_parts (nat_lt i place) (nat_lt place j) both.0 in
        record { far = 0; at = omega (arith, same); after = let lt = ltb-true i place places.0 in omega (arith, lt, same); before = let lt = ltb-true place j places.1 in omega (arith, lt, same); falls_there = both.1 }
    by false is h rest = let r = rest h in record { far = suc r.far; at = let a = r.at in omega (arith, a); after = r.after; before = r.before; falls_there = r.falls_there }

none_falls : (xs : List Sight) (i j place size n : ℕ) → fall_from i j place size xs ≡ None → i < place + n → place + n < j → falls_from size xs n ≡ true → ⊥
none_falls [] i j place size n h low high fall = absurd cc
none_falls (x ∷ xs) i j place size n h low high fall = by (nat_lt i place && nat_lt place j && falls size x) refl h n low high fall (none_falls xs i j (place + 1) x.size)
  where
    by : (b : Bool) → (nat_lt i place && nat_lt place j && falls size x) ≡ b → cond b (Some place) (fall_from i j (place + 1) x.size xs) ≡ None → (n : ℕ) → i < place + n → place + n < j → falls_from size (x ∷ xs) n ≡ true → ((n : ℕ) → fall_from i j (place + 1) x.size xs ≡ None → i < place + 1 + n → place + 1 + n < j → falls_from x.size xs n ≡ true → ⊥) → ⊥
    by true is h n low high fall rest = absurd cc
    by false is h zero low high fall rest = (let e : true ≡ false = sym (rw (lt-ltb i place (omega (arith, low)), lt-ltb place j (omega (arith, high)), fall) refl) ∙ is in absurd cc)
    by false is h (suc n) low high fall rest = rest n h (omega (arith, low)) (omega (arith, high)) fall

pub is_fall : (xs : List Sight) (i j k : ℕ) → fall_from i j 0 0 xs ≡ Some k → IsFall xs i j k
is_fall xs i j k h = let f = found xs i j 0 0 k h in record { after = f.after; before = f.before; falls = let at = f.at in subst (λ (n : ℕ). falls_from 0 xs n ≡ true) (omega (arith, at)) f.falls_there }

pub never_falls : (xs : List Sight) (i j : ℕ) → fall_from i j 0 0 xs ≡ None → FallsBetween xs i j → ⊥
never_falls xs i j h (k, f) = let low = f.after in let high = f.before in none_falls xs i j 0 0 k h (omega (arith, low)) (omega (arith, high)) f.falls
