-- Bounds of an order's length, by sums over the finest parts.
use Rattle.std.proofs.Common.{ℕ, zero, suc, ℤ, ◌≡◌, ◌<◌, ◌≤◌, ◌+◌, ◌-◌, ◌*◌, ◌/◌, ◌^◌, max, List, [], ◌∷◌, length, take, drop, map, sum_by, refl, ap, sym, subst, ◌∙◌, arith, zero-add, le_trans, mul-le-mul, mul-le-mul_right, le-div_iff_mul-le, div-mul-le_self, slice_index, true}
use Rattle.std.specs.List.{range_with_len}
use Rattle.std.proofs.lemmas.List.{drop-map, take-map}
use Rattle.std.proofs.lemmas.List.FromFn.{length-map-range_with_len, take-map-range_with_len}
use Rattle.std.proofs.lemmas.List.Sums.{sum_by-append}
use Rattle.flac_definitions.specs.ResidualSpelling.{folded_value}
use Rattle.flac_definitions.specs.Plans.{part_of}
use Rattle.std.proofs.lemmas.Nat.{pow_pos}
use Rattle.flac_definitions.specs.Plans.{fits, best_partition}
use Rattle.flac_definitions.specs.Candidates.{candidate_bits}
use Rattle.flac_plans.specs.FitLaws.{range_more, fits_whole, fits_for}
use Rattle.flac_plans.specs.Search.{total, least, leasts, IsBelow, NoPlanIsBelowLeasts}
use Rattle.flac_subframes.specs.Search.{best_of_order}
use Rattle.flac_subframes.specs.declared.leasts.Parts.{Parts}
use Rattle.flac_definitions.specs.FixedPredictors.{residual_at, folded_residual}
use Rattle.flac_subframes.specs.Leasts.{sizes_in, IsCut, IsLeast}

-- ---- sums over numbers in order

pub sum_next : (f : ℕ → ℕ) (a n j : ℕ) → a + n ≡ j → sum_by f (range_with_len a (n + 1)) ≡ sum_by f (range_with_len a n) + f j
sum_next f a n j e = ap (sum_by f) (range_more a n j e) ∙ (sum_by-append f (range_with_len a n) (j ∷ []) ∙ omega arith)

sum_suc : (f : ℕ → ℕ) (a n j : ℕ) → a + n ≡ j → sum_by f (range_with_len a (suc n)) ≡ sum_by f (range_with_len a n) + f j
sum_suc f a n j e = (let count : suc n ≡ n + 1 = omega arith in ap (λ (k : ℕ). sum_by f (range_with_len a k)) count ∙ sum_next f a n j e)

-- all from a later place on are among them
pub sums_behind : (f : ℕ → ℕ) (a m n : ℕ) → sum_by f (range_with_len (a + m) n) ≤ sum_by f (range_with_len a (m + n))
sums_behind f a m zero = omega arith
sums_behind f a m (suc n) =
    let count : m + suc n ≡ suc (m + n) = omega arith in
    let whole : sum_by f (range_with_len a (m + suc n)) ≡ sum_by f (range_with_len a (m + n)) + f (a + m + n) = ap (λ (k : ℕ). sum_by f (range_with_len a k)) count ∙ sum_suc f a (m + n) (a + m + n) (omega arith) in
    omega (arith, sums_behind f a m n, whole, sum_suc f (a + m) n (a + m + n) refl)

-- numbers that all are so much greater
pub shifted : (f : ℕ → ℕ) (o a n : ℕ) → sum_by (λ k. f (o + k)) (range_with_len a n) ≡ sum_by f (range_with_len (o + a) n)
shifted f o a zero = refl
shifted f o a (suc n) =
    let same : f (o + (a + n)) ≡ f (o + a + n) = ap f (omega arith) in
    omega (arith, shifted f o a n, sum_suc (λ (k : ℕ). f (o + k)) a n (a + n) refl, sum_suc f (o + a) n (o + a + n) refl, same)

-- the sum of a part's folded values, with one more for each
pub total_more : (g : ℕ → ℕ) (a n : ℕ) → total (map g (range_with_len a n)) + length (map g (range_with_len a n)) ≡ sum_by (λ k. g k + 1) (range_with_len a n)
total_more g a zero = refl
total_more g a (suc n) = omega (arith, total_more g (a + 1) n, sum_by-append (λ (x : ℕ). x) (g a ∷ []) (map g (range_with_len (a + 1) n)), sum_by-append (λ (k : ℕ). g k + 1) (a ∷ []) (range_with_len (a + 1) n))

drop_from : (a n b : ℕ) → drop b (range_with_len a n) ≡ range_with_len (a + b) (n - b)
drop_from a n zero =
    let here : a ≡ a + zero = omega arith in
    let count : n ≡ n - zero = omega arith in
    ap (λ (k : ℕ). range_with_len k n) here ∙ ap (range_with_len (a + zero)) count
drop_from a zero (suc b) = (let none : 0 ≡ zero - suc b = omega arith in ap (range_with_len (a + suc b)) none)
drop_from a (suc n) (suc b) =
    let here : a + 1 + b ≡ a + suc b = omega arith in
    let count : n - b ≡ suc n - suc b = omega arith in
    drop_from (a + 1) n b ∙ (ap (λ (k : ℕ). range_with_len k (n - b)) here ∙ ap (range_with_len (a + suc b)) count)

map_two : {X Y Z : Type 0} (g : Y → Z) (f : X → Y) (xs : List X) → map g (map f xs) ≡ map (λ x. g (f x)) xs
map_two g f [] = refl
map_two {X} {Y} {Z} g f (x ∷ xs) = ap (λ (l : List Z). g (f x) ∷ l) (map_two g f xs)

-- the values of one of the parts
pub part_values : (order size : ℕ) (xs : List ℤ) (j : ℕ) → order ≤ size → (j + 1) * size ≤ length xs
    → part_of size order (folded_residual order xs) j ≡ map (λ k. folded_value (residual_at order xs (order + k))) (range_with_len (j * size - order) ((j + 1) * size - order - (j * size - order)))
part_values order size xs j few there =
    let n = length xs - order in
    let b = j * size - order in
    let m = (j + 1) * size - order - b in
    let r : ℕ → ℤ = λ (k : ℕ). residual_at order xs (order + k) in
    let behind : drop b (map r (range_with_len 0 n)) ≡ map r (range_with_len (0 + b) (n - b)) = drop-map r b (range_with_len 0 n) ∙ ap (map r) (drop_from 0 n b) in
    let front : take m (map r (range_with_len (0 + b) (n - b))) ≡ map r (range_with_len (0 + b) m) = take-map-range_with_len r (0 + b) (n - b) m (omega (arith, there)) in
    let part : take m (drop b (map r (range_with_len 0 n))) ≡ map r (range_with_len (0 + b) m) = ap (take m) behind ∙ front in
    ap (take m) (drop-map folded_value b (map r (range_with_len 0 n)))
    ∙ (take-map folded_value m (drop b (map r (range_with_len 0 n)))
    ∙ (ap (map folded_value) part ∙ (map_two folded_value r (range_with_len (0 + b) m) ∙ ap (λ (k : ℕ). map (λ k. folded_value (r k)) (range_with_len k m)) (zero-add b))))

-- what a part's values are in all is at least what they are behind the fourth sample
pub part_sums : (order size : ℕ) (xs : List ℤ) (j : ℕ) → order ≤ 4 → 4 < size → (j + 1) * size ≤ length xs
    → sizes_in order xs (max (j * size) 4) ((j + 1) * size - max (j * size) 4) ≤ total (part_of size order (folded_residual order xs) j) + length (part_of size order (folded_residual order xs) j)
part_sums order size xs j few long there =
    let b = j * size - order in
    let m = (j + 1) * size - order - b in
    let from = max (j * size) 4 in
    let n = (j + 1) * size - from in
    let d = from - (order + b) in
    let f : ℕ → ℕ = λ (i : ℕ). folded_value (residual_at order xs i) + 1 in
    let g : ℕ → ℕ = λ (k : ℕ). folded_value (residual_at order xs (order + k)) in
    let at : order + b + d ≡ from = omega (arith, few, long) in
    let count : d + n ≡ m = omega (arith, few, long) in
    let all : total (map g (range_with_len b m)) + length (map g (range_with_len b m)) ≡ sum_by f (range_with_len (order + b) m) = total_more g b m ∙ shifted f order b m in
    let less : sum_by f (range_with_len from n) ≤ sum_by f (range_with_len (order + b) m) =
    subst (λ (k : ℕ). sum_by f (range_with_len k n) ≤ sum_by f (range_with_len (order + b) m)) at (subst (λ (k : ℕ). sum_by f (range_with_len (order + b + d) n) ≤ sum_by f (range_with_len (order + b) k)) count (sums_behind f (order + b) d n)) in
    let is = part_values order size xs j (omega (arith, few, long)) there in
    omega (arith, less, all, ap total is, ap (λ (l : List ℕ). length l) is)

-- ---- bounds of parts and of orders

div_up : (m : ℕ) {a b : ℕ} → 0 < m → a ≤ b → a / m ≤ b / m
div_up m {a} {b} some h = (le-div_iff_mul-le some).1 (le_trans (div-mul-le_self a m) h)

part_length : (order size : ℕ) (xs : List ℤ) (j : ℕ) → order ≤ size → (j + 1) * size ≤ length xs → length (part_of size order (folded_residual order xs) j) ≡ (j + 1) * size - order - (j * size - order)
part_length order size xs j few there =
    let n = (j + 1) * size - order - (j * size - order) in
    ap (λ (l : List ℕ). length l) (part_values order size xs j few there) ∙ length-map-range_with_len (λ (k : ℕ). folded_value (residual_at order xs (order + k))) (j * size - order) n

-- a number that is below a part's bits, by its sum
pub part_below : (order size j count part bound : ℕ) (xs : List ℤ) → order ≤ 4 → 4 < size → (j + 1) * size ≤ length xs → count ≡ (j + 1) * size - order - (j * size - order)
    → 2 * part ≤ sizes_in order xs (max (j * size) 4) ((j + 1) * size - max (j * size) 4) → ((k : ℕ) → k ≤ 14 → bound ≤ count * k + 2 * part / 2 ^ k)
    → IsBelow bound (part_of size order (folded_residual order xs) j)
part_below order size j count part bound xs few long there is h below = λ k l.
    let zs = part_of size order (folded_residual order xs) j in
    let same : count ≡ length zs = is ∙ sym (part_length order size xs j (omega (arith, few, long)) there) in
    let low : 2 * part / 2 ^ k ≤ (total zs + length zs) / 2 ^ k = div_up (2 ^ k) (pow_pos k) (le_trans h (part_sums order size xs j few long there)) in
    let one : bound ≤ length zs * k + 2 * part / 2 ^ k = subst (λ (n : ℕ). bound ≤ n * k + 2 * part / 2 ^ k) same (below k l) in
    omega (arith, one, low)

pub least_more : (xs : List ℤ) (size order j sum bound : ℕ) → IsLeast xs size order j sum → bound ≤ least (part_of size order (folded_residual order xs) j) → bound ≤ 2 ^ 48 + 2 ^ 16
    → IsLeast xs size order (j + 1) (sum + bound)
least_more xs size order j sum bound h k few = record {
  below = omega (arith, h.below, k, sum_next (λ (j : ℕ). least (part_of size order (folded_residual order xs) j)) 0 j j (zero-add j));
  small = omega (arith, h.small, few);
}

pub no_parts : (xs : List ℤ) (size order : ℕ) → IsLeast xs size order 0 0
no_parts xs size order = record { below = omega arith; small = omega arith }

pub order_least : (depth most o sum : ℕ) (xs : List ℤ) (parts : Parts) → NoPlanIsBelowLeasts → o ≤ 4 → IsCut (length xs) most parts → IsLeast xs parts.size o parts.count sum
    → 18 + depth * o + sum ≤ candidate_bits depth xs (best_of_order most xs o)
order_least depth most o sum xs parts law few cut h =
    let p = cut.partition in
    let n = length xs in
    let zs = folded_residual o xs in
    let fit : fits n o p ≡ true = fits_for n 4 o p cut.fitting (omega (arith, few, (fits_whole n 4 p cut.fitting).1)) in
    let same : leasts parts.size o zs parts.count ≡ leasts (n / 2 ^ p) o zs (2 ^ p) = ap (λ (s : ℕ). leasts s o zs parts.count) cut.size ∙ ap (leasts (n / 2 ^ p) o zs) cut.number in
    let plan = law.plans n o zs p (best_partition n o most zs) sum fit (le_trans (law.partitions n o most zs) (cut.finest o few)) (omega (arith, h.below, same)) in
    omega (arith, plan)

-- five numbers, one for each order
pub five_below : (f : ℕ → ℕ) (a b c d e : ℕ) → a ≤ f 0 → b ≤ f 1 → c ≤ f 2 → d ≤ f 3 → e ≤ f 4 → (o : ℕ) → o ≤ 4 → slice_index (a ∷ b ∷ c ∷ d ∷ e ∷ []) o ≤ f o
five_below f a b c d e h0 h1 h2 h3 h4 zero l = h0
five_below f a b c d e h0 h1 h2 h3 h4 (suc zero) l = h1
five_below f a b c d e h0 h1 h2 h3 h4 (suc (suc zero)) l = h2
five_below f a b c d e h0 h1 h2 h3 h4 (suc (suc (suc zero))) l = h3
five_below f a b c d e h0 h1 h2 h3 h4 (suc (suc (suc (suc zero)))) l = h4
five_below f a b c d e h0 h1 h2 h3 h4 (suc (suc (suc (suc (suc n))))) l = absurd (omega (arith, l))

-- ---- sums over samples

-- a sum over so many samples from one on, of values that are at most `most` each
pub record IsSize (o : ℕ) (xs : List ℤ) (from n most sum : ℕ) : Type 0 where
  pub half : 2 * sum ≤ sizes_in o xs from n
  pub small : sum ≤ n * most

pub no_sizes : (o : ℕ) (xs : List ℤ) (from most : ℕ) → IsSize o xs from (from - from) most 0
no_sizes o xs from most = record { half = omega arith; small = omega arith }

pub size_more : (o : ℕ) (xs : List ℤ) (from i most s sum : ℕ) (v : ℤ) → from ≤ i → IsSize o xs from (i - from) most sum → v ≡ residual_at o xs i → 2 * s ≤ folded_value v + 1 → s ≤ most
    → IsSize o xs from (i + 1 - from) most (sum + s)
size_more o xs from i most s sum v behind h is below few =
    let count : i + 1 - from ≡ i - from + 1 = omega (arith, behind) in
    let more : sizes_in o xs from (i - from + 1) ≡ sizes_in o xs from (i - from) + (folded_value (residual_at o xs i) + 1) = sum_next (λ (i : ℕ). folded_value (residual_at o xs i) + 1) from (i - from) i (omega (arith, behind)) in
    let all : sizes_in o xs from (i + 1 - from) ≡ sizes_in o xs from (i - from + 1) = ap (sizes_in o xs from) count in
    let times : (i + 1 - from) * most ≡ (i - from + 1) * most = ap (λ (k : ℕ). k * most) count in
    record {
      half = omega (arith, h.half, below, more, all, ap (λ (x : ℤ). folded_value x) is);
      small = omega (arith, h.small, few, times);
    }

pub size_fits : (n t k most sum s : ℕ) → n < t → k ≤ 16 → sum ≤ n * (k * most) → s ≤ k * most → t * (16 * most) < 2 ^ 32 → sum + s < 2 ^ 32
size_fits n t k most sum s less few h j small =
    let wide : k * most ≤ 16 * most = mul-le-mul_right most few in
    let all : (n + 1) * (k * most) ≤ t * (16 * most) = mul-le-mul (omega (arith, less)) wide in
    omega (arith, all, h, j, small)
