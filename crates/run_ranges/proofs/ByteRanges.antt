-- Lists that hold bytes alone.
use Rattle.std.proofs.Common.{ℕ, zero, suc, ◌≡◌, ◌<◌, ◌+◌, ◌*◌, ◌/◌, ◌%◌, List, [], ◌∷◌, ◌++◌, length, length-append, take, drop, refl, ap, arith, lit<}
use Rattle.std.specs.Prelude.{map, replicate}
use Rattle.std.specs.List.{flat_map, range_with_len}
use Rattle.std.proofs.lemmas.List.{get_or-drop}
use Rattle.hex.specs.Hex.{IsBytes}
use Rattle.codec_definitions.specs.Pcm.{bytes_of}

pub nothing_small : IsBytes []
nothing_small zero = lit< tt
nothing_small (suc i) = lit< tt

pub one_small : (x : ℕ) (xs : List ℕ) → x < 256 → IsBytes xs → IsBytes (x ∷ xs)
one_small x xs small all zero = small
one_small x xs small all (suc i) = all i

pub both_small : (xs ys : List ℕ) → IsBytes xs → IsBytes ys → IsBytes (xs ++ ys)
both_small [] ys a b = b
both_small (x ∷ xs) ys a b = one_small x (xs ++ ys) (a 0) (both_small xs ys (λ j. a (suc j)) b)

pub take_small : (n : ℕ) (xs : List ℕ) → IsBytes xs → IsBytes (take n xs)
take_small (suc n) (x ∷ xs) h = one_small x (take n xs) (h 0) (take_small n xs (λ i. h (suc i)))
take_small _ _ h = nothing_small

pub drop_small : (n : ℕ) (xs : List ℕ) → IsBytes xs → IsBytes (drop n xs)
drop_small n xs h i = rw (get_or-drop n xs i 0) (h (n + i))

pub zeros_small : (n : ℕ) → IsBytes (replicate n 0)
zeros_small zero = nothing_small
zeros_small (suc n) = one_small 0 (replicate n 0) (lit< tt) (zeros_small n)

pub bytes_small : (size n : ℕ) → IsBytes (bytes_of size n)
bytes_small zero n = nothing_small
bytes_small (suc size) n = one_small (n % 256) (bytes_of size (n / 256)) (omega arith) (bytes_small size (n / 256))

pub flat_small : (f : ℕ → List ℕ) → ((i : ℕ) → IsBytes (f i)) → (a n : ℕ) → IsBytes (flat_map f (range_with_len a n))
flat_small f h a zero = nothing_small
flat_small f h a (suc n) = both_small (f a) (flat_map f (range_with_len (a + 1) n)) (h a) (flat_small f h (a + 1) n)

pub range_small : (f : ℕ → ℕ) → ((i : ℕ) → f i < 256) → (a n : ℕ) → IsBytes (map f (range_with_len a n))
range_small f h a zero = nothing_small
range_small f h a (suc n) = one_small (f a) (map f (range_with_len (a + 1) n)) (h a) (range_small f h (a + 1) n)

-- ---- how many there are

pub bytes_length : (size n : ℕ) → length (bytes_of size n) ≡ size
bytes_length zero n = refl
bytes_length (suc size) n = ap suc (bytes_length size (n / 256))

-- parts of one length
pub flat_length : {X : Type 0} (f : ℕ → List X) (k : ℕ) → ((i : ℕ) → length (f i) ≡ k) → (a n : ℕ) → length (flat_map f (range_with_len a n)) ≡ n * k
flat_length f k h a zero = omega arith
flat_length f k h a (suc n) = omega (arith, length-append (f a) (flat_map f (range_with_len (a + 1) n)), h a, flat_length f k h (a + 1) n)
