-- Rice codes of residuals, and the plan with the fewest bits (RFC 9639, section 9.2.7; the choice is ours).
use Rattle.std.specs.Prelude.{ℕ, zero, suc, ◌≡◌, ◌≤◌, ◌<◌, ◌+◌, ◌-◌, ◌*◌, ◌/◌, ◌%◌, ◌^◌, ◌==◌, ◌&&◌, nat_lt, Bool, true, List, length, take, drop, map, sum_by, slice_index, if◌then◌else◌}
use Rattle.std.specs.List.{range_with_len}
use Rattle.flac_definitions.specs.declared.plan.RicePlan.{RicePlan}

-- the bits of one value, and of values, with parameter `k`
abbrev pub value_size : ℕ → ℕ → ℕ
value_size k z = z / 2 ^ k + 1 + k

abbrev pub cost : ℕ → List ℕ → ℕ
cost k zs = sum_by (value_size k) zs

-- the first of 0 to `n` at which `f` is least
unfoldable pub first_least : (ℕ → ℕ) → ℕ → ℕ
first_least f zero = 0
first_least f (suc n) = if nat_lt (f (suc n)) (f (first_least f n)) then suc n else first_least f n

-- the least parameter of 0 to 14 with the fewest bits
abbrev pub best_parameter : List ℕ → ℕ
best_parameter zs = first_least (λ k. cost k zs) 14

-- part `j` of the folded_value values of a residual, `size` values each, but the first has `order` fewer
abbrev pub part_of : ℕ → ℕ → List ℕ → ℕ → List ℕ
part_of size order zs j = take ((j + 1) * size - order - (j * size - order)) (drop (j * size - order) zs)

abbrev pub part_bits : List ℕ → ℕ
part_bits zs = 4 + cost (best_parameter zs) zs

-- the plan of partition order `p`: its parameters, and the bits of the residual with its 6 bits
abbrev pub plan_parameters : ℕ → ℕ → List ℕ → ℕ → List ℕ
plan_parameters block order zs p = map (λ j. best_parameter (part_of (block / 2 ^ p) order zs j)) (range_with_len 0 (2 ^ p))

abbrev pub plan_bits : ℕ → ℕ → List ℕ → ℕ → ℕ
plan_bits block order zs p = 6 + sum_by (λ j. part_bits (part_of (block / 2 ^ p) order zs j)) (range_with_len 0 (2 ^ p))

-- a partition order that fits; each below one that fits does too
abbrev pub fits : ℕ → ℕ → ℕ → Bool
fits block order p = (block % 2 ^ p == 0) && nat_lt order (block / 2 ^ p)

-- the greatest that fits and is no more than `most`
unfoldable pub finest : ℕ → ℕ → ℕ → ℕ
finest block order zero = 0
finest block order (suc p) = if fits block order (suc p) then suc p else finest block order p

-- the first partition order whose plan has the fewest bits
abbrev pub best_partition : ℕ → ℕ → ℕ → List ℕ → ℕ
best_partition block order most zs = first_least (plan_bits block order zs) (finest block order most)

pub record IsPlan (block order : ℕ) (zs : List ℕ) (p : ℕ) (plan : RicePlan) : Type 0 where
  pub partition : plan.partition ≡ p
  pub parameters : plan.parameters.items ≡ plan_parameters block order zs p
  pub bits : plan.bits ≡ plan_bits block order zs p

-- a plan with which a residual can be written
pub record IsUsable (block order : ℕ) (plan : RicePlan) : Type 0 where
  pub partition : plan.partition ≤ 15
  pub fitting : fits block order plan.partition ≡ true
  pub parameters : length plan.parameters.items ≡ 2 ^ plan.partition
  pub small : (j : ℕ) → j < 2 ^ plan.partition → slice_index plan.parameters.items j ≤ 14
