-- What a residual's bits are at least, from the sums of its finest parts alone: an order whose least is not below the
-- bits of another is not searched.
use Rattle.std.proofs.Common.{ℕ, zero, suc, ◌≡◌, ◌<◌, ◌≤◌, ◌+◌, ◌-◌, ◌*◌, ◌/◌, ◌%◌, ◌^◌, List, [], ◌∷◌, ◌++◌, length, sum_by, true, ap, sym, subst, ◌∙◌, arith}
use Rattle.std.specs.List.{range_with_len}
use Rattle.std.proofs.Math.Nat.{div-add-mod, div-le_of_le-mul, mul-div_right, pow-suc}
use Rattle.std.proofs.lemmas.Nat.{pow_pos, mod_below}
use Rattle.std.proofs.lemmas.List.Sums.{sum_by-append}
use Rattle.flac_definitions.specs.Plans.{value_size, cost, best_parameter, part_of, plan_bits, fits}
use Rattle.flac_plans.specs.Search.{quotients, total, IsBelow, NoPlanIsBelow, least, leasts}
use Rattle.flac_plans.proofs.Windows.{cost_is, is_first, sum_cons}
use Rattle.flac_plans.proofs.Rows.{part_joined, sum_more, one_more_sum}
use Rattle.flac_plans.proofs.Descent.{fits_whole, fits_lower}

floor_one : (p x z r : ℕ) → z ≡ p * x + r → r < p → z + 1 ≤ p * (x + 1)
floor_one p x z r e small = omega (arith, e, small)

floors : (k : ℕ) (zs : List ℕ) → total zs + length zs ≤ 2 ^ k * (quotients k zs + length zs)
floors k [] = omega arith
floors k (z ∷ zs) =
    let p = 2 ^ k in
    let x = z / 2 ^ k in
    let one = floor_one p x z (z % 2 ^ k) (sym (div-add-mod z (2 ^ k))) (mod_below z (2 ^ k) (pow_pos k)) in
    let rest = floors k zs in
    let a : total (z ∷ zs) ≡ z + total zs = sum_cons (λ (v : ℕ). v) z zs in
    let b : p * (quotients k (z ∷ zs) + length (z ∷ zs)) ≡ p * (x + 1) + p * (quotients k zs + length zs) = ap (λ (n : ℕ). p * (n + length (z ∷ zs))) (sum_cons (λ (v : ℕ). v / 2 ^ k) z zs) ∙ omega arith in
    omega (arith, one, rest, a, b)

cost_least : (k : ℕ) (zs : List ℕ) → length zs * k + (total zs + length zs) / 2 ^ k ≤ cost k zs
cost_least k zs = (let low : (total zs + length zs) / 2 ^ k ≤ quotients k zs + length zs = div-le_of_le-mul (2 ^ k) (floors k zs) in omega (arith, low, cost_is k zs))

few : (zs : List ℕ) → best_parameter zs ≤ 14
few zs = (is_first (λ (k : ℕ). cost k zs) 14).to_ge

least_le : (zs : List ℕ) (k : ℕ) → k ≤ 14 → least zs ≤ cost k zs
least_le zs k l = (is_first (λ (k : ℕ). cost k zs) 14).least k (omega arith) l

pub below_least : (b : ℕ) (zs : List ℕ) → IsBelow b zs → b ≤ least zs
below_least b zs h = omega (arith, h (best_parameter zs) (few zs), cost_least (best_parameter zs) zs)

-- two parts with parameters of their own have no more bits than both with one
joined_least : (a b : List ℕ) → least a + least b ≤ least (a ++ b)
joined_least a b =
    let k = best_parameter (a ++ b) in
    omega (arith, least_le a k (few (a ++ b)), least_le b k (few (a ++ b)), sum_by-append (value_size k) a b)

halves : (size order : ℕ) (zs : List ℕ) (parts : ℕ) → leasts size order zs (2 * parts) ≤ leasts (2 * size) order zs parts
halves size order zs zero = omega arith
halves size order zs (suc n) =
    let f : ℕ → ℕ = λ (j : ℕ). least (part_of size order zs j) in
    let g : ℕ → ℕ = λ (j : ℕ). least (part_of (2 * size) order zs j) in
    let count : 2 * suc n ≡ suc (suc (2 * n)) = omega arith in
    let last : 2 * n + 1 ≡ suc (2 * n) = omega arith in
    let two : sum_by f (range_with_len 0 (2 * suc n)) ≡ sum_by f (range_with_len 0 (2 * n)) + f (2 * n) + f (2 * n + 1) =
    ap (λ (m : ℕ). sum_by f (range_with_len 0 m)) count ∙ (sum_more f 0 (suc (2 * n)) (2 * n + 1) (omega arith) ∙ ap (λ (m : ℕ). m + f (2 * n + 1)) (sum_more f 0 (2 * n) (2 * n) (omega arith))) in
    let one : sum_by g (range_with_len 0 (suc n)) ≡ sum_by g (range_with_len 0 n) + g n = sum_more g 0 n n (omega arith) in
    let here : g n ≡ least (part_of size order zs (2 * n) ++ part_of size order zs (2 * n + 1)) = ap least (part_joined size order zs n) in
    omega (arith, two, one, here, joined_least (part_of size order zs (2 * n)) (part_of size order zs (2 * n + 1)), halves size order zs n)

coarser : (block order : ℕ) (zs : List ℕ) (p d : ℕ) → fits block order (p + d) ≡ true → leasts (block / 2 ^ (p + d)) order zs (2 ^ (p + d)) ≤ leasts (block / 2 ^ p) order zs (2 ^ p)
coarser block order zs p zero e = (let same : p + zero ≡ p = omega arith in subst (λ (q : ℕ). leasts (block / 2 ^ q) order zs (2 ^ q) ≤ leasts (block / 2 ^ p) order zs (2 ^ p)) (sym same) (omega arith))
coarser block order zs p (suc d) e =
    let q = p + d in
    let next : p + suc d ≡ suc q = omega arith in
    let there : fits block order (suc q) ≡ true = subst (λ (x : ℕ). fits block order x ≡ true) next e in
    let w = fits_whole block order (suc q) there in
    let s = block / 2 ^ suc q in
    let power : 2 ^ suc q ≡ 2 * 2 ^ q = omega (arith, pow-suc 2 q) in
    let whole : 2 ^ q * (2 * s) ≡ block = omega (arith, w.0, ap (λ (x : ℕ). x * s) power) in
    let size : block / 2 ^ q ≡ 2 * s = ap (λ (x : ℕ). x / 2 ^ q) (sym whole) ∙ mul-div_right (2 * s) {m = 2 ^ q} (pow_pos q) in
    let step : leasts s order zs (2 ^ suc q) ≤ leasts (block / 2 ^ q) order zs (2 ^ q) =
    subst (λ (x : ℕ). leasts s order zs x ≤ leasts (block / 2 ^ q) order zs (2 ^ q)) (sym power) (subst (λ (x : ℕ). leasts s order zs (2 * 2 ^ q) ≤ leasts x order zs (2 ^ q)) (sym size) (halves s order zs (2 ^ q))) in
    let rest = coarser block order zs p d (fits_lower block order (suc q) q (omega arith) there) in
    subst (λ (x : ℕ). leasts (block / 2 ^ x) order zs (2 ^ x) ≤ leasts (block / 2 ^ p) order zs (2 ^ p)) (sym next) (omega (arith, step, rest))

with_headers : (f : ℕ → ℕ) (n : ℕ) → sum_by (λ j. 4 + f j) (range_with_len 0 n) ≡ 4 * n + sum_by f (range_with_len 0 n)
with_headers f zero = omega arith
with_headers f (suc n) = omega (arith, with_headers f n, sum_more (λ (j : ℕ). 4 + f j) 0 n n (omega arith), sum_more f 0 n n (omega arith))

sums_below : (f g : ℕ → ℕ) (n : ℕ) → ((j : ℕ) → j < n → f j ≤ g j) → sum_by f (range_with_len 0 n) ≤ sum_by g (range_with_len 0 n)
sums_below f g zero h = omega arith
sums_below f g (suc n) h = omega (arith, sums_below f g n (λ j l. h j (omega (arith, l))), h n (omega arith), sum_more f 0 n n (omega arith), sum_more g 0 n n (omega arith))

-- no plan has fewer bits than ten and the least of each finest part
pub plan_least : NoPlanIsBelow
plan_least block order zs finest p bound e less h =
    let at : p + (finest - p) ≡ finest = omega (arith, less) in
    let there : fits block order (p + (finest - p)) ≡ true = subst (λ (x : ℕ). fits block order x ≡ true) (sym at) e in
    let coarse : leasts (block / 2 ^ finest) order zs (2 ^ finest) ≤ leasts (block / 2 ^ p) order zs (2 ^ p) =
    subst (λ (x : ℕ). leasts (block / 2 ^ x) order zs (2 ^ x) ≤ leasts (block / 2 ^ p) order zs (2 ^ p)) at (coarser block order zs p (finest - p) there) in
    let parts : sum_by bound (range_with_len 0 (2 ^ finest)) ≤ leasts (block / 2 ^ finest) order zs (2 ^ finest) =
    sums_below bound (λ (j : ℕ). least (part_of (block / 2 ^ finest) order zs j)) (2 ^ finest) (λ j l. below_least (bound j) (part_of (block / 2 ^ finest) order zs j) (h j l)) in
    omega (arith, coarse, parts, with_headers (λ (j : ℕ). least (part_of (block / 2 ^ p) order zs j)) (2 ^ p), pow_pos p)

-- the same, seen by a sum that the finest parts do not go below
pub plan_no_less : (block order : ℕ) (zs : List ℕ) (finest p b : ℕ) → fits block order finest ≡ true → p ≤ finest → b ≤ leasts (block / 2 ^ finest) order zs (2 ^ finest) → 10 + b ≤ plan_bits block order zs p
plan_no_less block order zs finest p b e less h =
    let at : p + (finest - p) ≡ finest = omega (arith, less) in
    let there : fits block order (p + (finest - p)) ≡ true = subst (λ (x : ℕ). fits block order x ≡ true) (sym at) e in
    let coarse : leasts (block / 2 ^ finest) order zs (2 ^ finest) ≤ leasts (block / 2 ^ p) order zs (2 ^ p) =
    subst (λ (x : ℕ). leasts (block / 2 ^ x) order zs (2 ^ x) ≤ leasts (block / 2 ^ p) order zs (2 ^ p)) at (coarser block order zs p (finest - p) there) in
    omega (arith, coarse, h, with_headers (λ (j : ℕ). least (part_of (block / 2 ^ p) order zs j)) (2 ^ p), pow_pos p)

pub leasts_more : (size order : ℕ) (zs got : List ℕ) (n so_far b : ℕ) → so_far ≤ leasts size order zs n → b ≤ least got → got ≡ part_of size order zs n → so_far + b ≤ leasts size order zs (n + 1)
leasts_more size order zs got n so_far b h l e = omega (arith, h, l, ap least e, one_more_sum (λ (j : ℕ). least (part_of size order zs j)) n)
