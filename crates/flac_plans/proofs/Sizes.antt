-- Sums of values without signs, and the bounds that follow of those of folded values.
use Rattle.std.proofs.Common.{ℕ, zero, suc, refl, ℤ, inl, inr, min, cond, Bool, pos, negsuc, ◌≡◌, ◌<◌, ◌≤◌, ◌+◌, ◌-◌, ◌*◌, ◌/◌, ◌^◌, ◌%◌, List, [], ◌∷◌, ◌++◌, length, take, map, get_or, sum_by, ap, sym, subst, ◌∙◌, arith}
use Rattle.std.specs.Prelude.{unsigned_abs}
use Rattle.std.proofs.Math.Nat.{mul-le-mul_left, div-add-mod}
use Rattle.std.proofs.lemmas.Nat.{le-div, pow_pos}
use Rattle.std.proofs.lemmas.List.{map-append, take_more, take_all, length-append}
use Rattle.std.proofs.lemmas.List.Sums.{sum_by-append}
use Rattle.flac_definitions.specs.ResidualSpelling.{folded_value}
use Rattle.std.proofs.lemmas.Bool.{cases_lt, lt-ltb, le-ltb}
use Rattle.flac_definitions.specs.Plans.{first_least, part_of}
use Rattle.flac_plans.specs.Search.{total, least_value, distance_within, bound_at, part_bound, part_bounds}
use Rattle.flac_plans.proofs.Windows.{first_more}
use Rattle.flac_plans.proofs.Rows.{one_more_sum}

pub twice_size : (v : ℤ) → 2 * unsigned_abs v ≤ folded_value v + 1
twice_size (pos n) = omega arith
twice_size (negsuc n) = omega arith

-- so many values of at most so much fit 32 bits
pub size_fits : (n most i sum s : ℕ) → n * most < 2 ^ 32 → i < n → sum ≤ i * most → s ≤ most → sum + s < 2 ^ 32
size_fits n most i sum s small l so_far one =
    let whole : most * (i + 1) ≤ most * n = mul-le-mul_left most (omega (arith, l)) in
    omega (arith, whole, small, so_far, one)

pub fewer_fit : (n size most : ℕ) → n ≤ size → most * size < 2 ^ 32 → n * most < 2 ^ 32
fewer_fit n size most l small = (let less : most * n ≤ most * size = mul-le-mul_left most l in omega (arith, less, small))

next_take : (xs : List ℤ) (i : ℕ) (x : ℤ) → i < length xs → x ≡ get_or xs i x → take (i + 1) xs ≡ take i xs ++ x ∷ []
next_take xs i x l at = take_more xs i x l ∙ ap (λ (y : ℤ). take i xs ++ y ∷ []) (sym at)

total_with : (xs : List ℤ) (x : ℤ) → total (map folded_value (xs ++ x ∷ [])) ≡ total (map folded_value xs) + folded_value x
total_with xs x = ap total (map-append folded_value xs (x ∷ [])) ∙ (sum_by-append (λ (z : ℕ). z) (map folded_value xs) (map folded_value (x ∷ [])) ∙ omega arith)

-- the values so far, and one more
pub size_more : (xs : List ℤ) (i : ℕ) (x : ℤ) (sum s : ℕ) → i < length xs → x ≡ get_or xs i x → 2 * sum ≤ total (map folded_value (take i xs)) + length (take i xs) → 2 * s ≤ folded_value x + 1 → 2 * (sum + s) ≤ total (map folded_value (take (i + 1) xs)) + length (take (i + 1) xs)
size_more xs i x sum s l at so_far one =
    let front = take i xs in
    let count : length (front ++ x ∷ []) ≡ length front + 1 = length-append front (x ∷ []) in
    subst (λ (ys : List ℤ). 2 * (sum + s) ≤ total (map folded_value ys) + length ys) (sym (next_take xs i x l at)) (omega (arith, total_with front x, count, so_far, one))

pub size_whole : (xs : List ℤ) (i : ℕ) (sum : ℕ) → length xs ≤ i → 2 * sum ≤ total (map folded_value (take i xs)) + length (take i xs) → 2 * sum ≤ total (map folded_value xs) + length xs
size_whole xs i sum beyond = subst (λ (ys : List ℤ). 2 * sum ≤ total (map folded_value ys) + length ys) (take_all i xs beyond)

-- a bound grows with the sum that it is of
pub bound_grows : (b n k twice more : ℕ) → twice ≤ more → b ≤ n * k + twice / 2 ^ k → b ≤ n * k + more / 2 ^ k
bound_grows b n k twice more l h =
    let p = 2 ^ k in
    let x = twice / p in
    let whole : twice ≡ p * x + twice % p = sym (div-add-mod twice p) in
    let low : x ≤ more / p = le-div x more p (pow_pos k) (omega (arith, whole, l)) in
    omega (arith, low, h)

-- ---- what they are

pub twice_is : (v : ℤ) → unsigned_abs v ≡ (folded_value v + 1) / 2
twice_is (pos n) = omega arith
twice_is (negsuc n) = omega arith

distances_with : (most : ℕ) (xs : List ℤ) (x : ℤ) → sum_by (distance_within most) (map folded_value (xs ++ x ∷ [])) ≡ sum_by (distance_within most) (map folded_value xs) + distance_within most (folded_value x)
distances_with most xs x =
    ap (sum_by (distance_within most)) (map-append folded_value xs (x ∷ []))
    ∙ (sum_by-append (distance_within most) (map folded_value xs) (map folded_value (x ∷ [])) ∙ omega arith)

pub distances_more : (most : ℕ) (xs : List ℤ) (i : ℕ) (x : ℤ) (sum s : ℕ) → i < length xs → x ≡ get_or xs i x → sum ≡ sum_by (distance_within most) (map folded_value (take i xs)) → s ≡ distance_within most (folded_value x)
    → sum + s ≡ sum_by (distance_within most) (map folded_value (take (i + 1) xs))
distances_more most xs i x sum s l at so_far one =
    subst (λ (ys : List ℤ). sum + s ≡ sum_by (distance_within most) (map folded_value ys)) (sym (next_take xs i x l at)) (omega (arith, distances_with most (take i xs) x, so_far, one))

pub distances_whole : (most : ℕ) (xs : List ℤ) (i : ℕ) (sum : ℕ) → length xs ≤ i → sum ≡ sum_by (distance_within most) (map folded_value (take i xs)) → sum ≡ sum_by (distance_within most) (map folded_value xs)
distances_whole most xs i sum beyond = subst (λ (ys : List ℤ). sum ≡ sum_by (distance_within most) (map folded_value ys)) (take_all i xs beyond)

-- the least of one number more
pub least_step : (f : ℕ → ℕ) (n b v : ℕ) → b ≡ least_value f n → v ≡ f (suc n) → min b v ≡ least_value f (suc n)
least_step f n b v e h = elim (cases_lt (f (suc n)) (least_value f n)) [
  | inl l ↦ (let is : first_least f (suc n) ≡ suc n = first_more f n ∙ ap (λ (t : Bool). cond t (suc n) (first_least f n)) (lt-ltb (f (suc n)) (least_value f n) l) in omega (arith, e, h, l, ap f is))
  | inr g ↦ (let is : first_least f (suc n) ≡ first_least f n = first_more f n ∙ ap (λ (t : Bool). cond t (suc n) (first_least f n)) (le-ltb (f (suc n)) (least_value f n) g) in omega (arith, e, h, g, ap f is))
]

pub next_value : (f : ℕ → ℕ) (k b v m : ℕ) → 1 ≤ k → ((n : ℕ) → k ≡ suc n → b ≡ least_value f n) → v ≡ f k → k + 1 ≡ suc m → min b v ≡ least_value f m
next_value f zero b v m some h e s = absurd (omega (arith, some))
next_value f (suc n) b v m some h e s = (let same : suc n ≡ m = omega (arith, s) in subst (λ (i : ℕ). min b v ≡ least_value f i) same (least_step f n b v (h n refl) e))

none_least : (f : ℕ → ℕ) → first_least f 0 ≡ 0
unfolding first_least
none_least f = refl

pub first_value : (count twice n : ℕ) → 1 ≡ suc n → twice ≡ least_value (bound_at count twice) n
first_value count twice zero e = (let is : bound_at count twice 0 ≡ twice = omega arith in sym (ap (bound_at count twice) (none_least (bound_at count twice)) ∙ is))
first_value count twice (suc n) e = absurd (omega (arith, e))

pub first_below : (count twice i : ℕ) → i < 1 → twice ≤ bound_at count twice i
first_below count twice zero l = omega arith
first_below count twice (suc i) l = absurd (omega (arith, l))

pub next_below : (count twice k b r i : ℕ) → ((j : ℕ) → j < k → b ≤ bound_at count twice j) → r ≡ min b (bound_at count twice k) → i < k + 1 → r ≤ bound_at count twice i
next_below count twice k b r i h e l = elim (cases_lt i k) [
  | inl a ↦ omega (arith, h i a, e)
  | inr g ↦ (let same : k ≡ i = omega (arith, l, g) in subst (λ (j : ℕ). r ≤ bound_at count twice j) same (omega (arith, e)))
]

pub part_bounds_more : (size order most : ℕ) (zs got : List ℕ) (n so_far b : ℕ) → so_far ≡ part_bounds size order zs n → b ≡ part_bound most got → most ≡ (2 ^ 32 - 1) / size → got ≡ part_of size order zs n
    → so_far + b ≡ part_bounds size order zs (n + 1)
part_bounds_more size order most zs got n so_far b h is m e =
    let one : b ≡ part_bound ((2 ^ 32 - 1) / size) (part_of size order zs n) = is ∙ (ap (λ (x : ℕ). part_bound x got) m ∙ ap (part_bound ((2 ^ 32 - 1) / size)) e) in
    omega (arith, h, one, one_more_sum (λ (j : ℕ). part_bound ((2 ^ 32 - 1) / size) (part_of size order zs j)) n)
