-- What the search for the plan with the fewest bits goes by.
use Rattle.std.specs.Prelude.{ℕ, ◌≡◌, ◌≤◌, ◌<◌, ◌+◌, ◌-◌, ◌*◌, ◌/◌, ◌^◌, min, true, List, length, map, sum_by}
use Rattle.std.specs.List.{flat_map, range_with_len}
use Rattle.flac_definitions.specs.Plans.{first_least, cost, best_parameter, part_of, plan_bits, fits, finest, best_partition}

-- `best` is the first of `from` to `to` at which `f` is least
pub record IsFirstLeast (f : ℕ → ℕ) (from to best : ℕ) : Type 0 where
  pub from_le : from ≤ best
  pub to_ge : best ≤ to
  pub least : (k : ℕ) → from ≤ k → k ≤ to → f best ≤ f k
  pub first : (k : ℕ) → from ≤ k → k < best → f best < f k

-- the sum of quotients by 2^k
abbrev pub quotients : ℕ → List ℕ → ℕ
quotients k zs = sum_by (λ z. z / 2 ^ k) zs

abbrev pub total : List ℕ → ℕ
total zs = sum_by (λ z. z) zs

-- the best parameter of these values is from `low` to `high`, seen by their sum alone
pub record IsWindow (low high : ℕ) (zs : List ℕ) : Type 0 where
  pub some : 0 < length zs
  pub above : 0 < low → 3 * length zs * 2 ^ (low - 1) ≤ total zs
  pub below : high < 14 → total zs ≤ length zs * 2 ^ high

abbrev pub row : ℕ → ℕ → List ℕ → List ℕ
row low width zs = map (λ c. quotients (low + c) zs) (range_with_len 0 width)

-- the rows of all parts
abbrev pub table : ℕ → ℕ → ℕ → ℕ → List ℕ → ℕ → List ℕ
table low width size order zs parts = flat_map (λ j. row low width (part_of size order zs j)) (range_with_len 0 parts)

-- bits below which no parameter is, seen by the sum of the values alone
abbrev pub IsBelow : ℕ → List ℕ → Type 0
IsBelow b zs = (k : ℕ) → k ≤ 14 → b ≤ length zs * k + (total zs + length zs) / 2 ^ k

-- no plan has fewer bits than ten and such a number for each of the finest parts
abbrev pub NoPlanIsBelow : Type 0
NoPlanIsBelow =
    (block order : ℕ) (zs : List ℕ) (finest p : ℕ) (bound : ℕ → ℕ) → fits block order finest ≡ true → p ≤ finest → ((j : ℕ) → j < 2 ^ finest → IsBelow (bound j) (part_of (block / 2 ^ finest) order zs j)) → 10 + sum_by bound (range_with_len 0 (2 ^ finest)) ≤ plan_bits block order zs p

-- `f` at the first of 0 to `n` at which it is least
abbrev pub least_value : (ℕ → ℕ) → ℕ → ℕ
least_value f n = f (first_least f n)

-- how far a value is from 0, by its folded value, but at most `most`
abbrev pub distance_within : ℕ → ℕ → ℕ
distance_within most z = min ((z + 1) / 2) most

-- bits below which parameter `k` is not, for so many values that are twice so far from 0 in all; and so none of 0 to 14
abbrev pub bound_at : ℕ → ℕ → ℕ → ℕ
bound_at count twice k = count * k + twice / 2 ^ k

abbrev pub part_bound : ℕ → List ℕ → ℕ
part_bound most zs = least_value (bound_at (length zs) (2 * sum_by (distance_within most) zs)) 14

-- bits below which no plan is: ten, and those of each of the finest parts, whose sums are to fit 32 bits
abbrev pub part_bounds : ℕ → ℕ → List ℕ → ℕ → ℕ
part_bounds size order zs parts = sum_by (λ j. part_bound ((2 ^ 32 - 1) / size) (part_of size order zs j)) (range_with_len 0 parts)

abbrev pub plan_bound : ℕ → ℕ → ℕ → List ℕ → ℕ
plan_bound block order most zs =
    let p = finest block order most in
    10 + part_bounds (block / 2 ^ p) order zs (2 ^ p)

-- the bits of all parts, each with its best parameter, without what stands before them
abbrev pub least : List ℕ → ℕ
least zs = cost (best_parameter zs) zs

abbrev pub leasts : ℕ → ℕ → List ℕ → ℕ → ℕ
leasts size order zs parts = sum_by (λ j. least (part_of size order zs j)) (range_with_len 0 parts)

-- No plan has fewer bits than ten and what the finest parts do not go below; a part has no fewer bits than a number that is below it
-- with each parameter; and the best partition order is none beyond the finest.
pub record NoPlanIsBelowLeasts : Type 0 where
  pub plans : (block order : ℕ) (zs : List ℕ) (finest p b : ℕ) → fits block order finest ≡ true → p ≤ finest → b ≤ leasts (block / 2 ^ finest) order zs (2 ^ finest) → 10 + b ≤ plan_bits block order zs p
  pub parts : (b : ℕ) (zs : List ℕ) → IsBelow b zs → b ≤ least zs
  pub partitions : (block order most : ℕ) (zs : List ℕ) → best_partition block order most zs ≤ finest block order most
