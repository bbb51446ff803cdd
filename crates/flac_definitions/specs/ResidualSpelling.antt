-- How coded residuals are spelled (RFC 9639, section 9.2.7).
use Rattle.std.specs.Prelude.{ℕ, zero, suc, ℤ, pos, negsuc, ◌≡◌, ◌+◌, ◌-◌, ◌*◌, ◌/◌, ◌^◌, ◌<◌, ◌==◌, nat_lt, Bool, true, false, List, [], ◌∷◌, ◌++◌, replicate, Some}
use Rattle.flac_definitions.specs.Bits.{bits_of}
use Rattle.flac_definitions.specs.Residual.{signed_number, can_be_partitioned, parameter_size}
use Rattle.flac_definitions.specs.Grammar.{IsNumber, IsGiven, IsNothing, InOrder, Either}

-- 0, 1, 2, .. fold to even numbers, -1, -2, .. to odd ones
abbrev pub folded_value : ℤ → ℕ
folded_value (pos n) = 2 * n
folded_value (negsuc n) = 2 * n + 1

-- a value's code: as many zeros as its folded number has times 2 ^ k, a 1, and the k low bits
abbrev pub value_bits : ℕ → ℤ → List Bool
value_bits k v = (replicate (folded_value v / 2 ^ k) false ++ true ∷ []) ++ bits_of k (folded_value v)

-- a value that a residual may have: from -2 ^ 31 + 1 to 2 ^ 31 - 1 (section 9.2.7.3)
abbrev pub IsInRange : ℤ → Type 0
IsInRange v = folded_value v < 2 ^ 32 - 1

-- a value with a parameter, and a plain one
abbrev pub IsValue : ℕ → ℤ → List Bool → Type 0
IsValue k v bits = IsInRange v × (bits ≡ value_bits k v)

abbrev pub IsSigned : ℕ → ℤ → List Bool → Type 0
IsSigned size = InOrder (IsNumber size) (λ n. IsGiven (Some (signed_number size n)))

-- so many values
abbrev pub AreEach : (ℤ → List Bool → Type 0) → ℕ → List ℤ → List Bool → Type 0
AreEach one zero = IsGiven (Some [])
AreEach one (suc n) = InOrder one (λ x. InOrder (AreEach one n) (λ xs. IsGiven (Some (x ∷ xs))))

-- a partition: a parameter, of which all ones say that a width and plain values follow
abbrev pub IsPartition : ℕ → ℕ → List ℤ → List Bool → Type 0
IsPartition size n =
    InOrder (IsNumber size) (λ k. Either (k == 2 ^ size - 1) (InOrder (IsNumber 5) (λ width. AreEach (IsSigned width) n)) (AreEach (IsValue k) n))

abbrev pub ArePartitions : ℕ → ℕ → ℕ → List ℤ → List Bool → Type 0
ArePartitions size each zero = IsGiven (Some [])
ArePartitions size each (suc n) = InOrder (IsPartition size each) (λ xs. InOrder (ArePartitions size each n) (λ ys. IsGiven (Some (xs ++ ys))))

-- the partitions, of which the first has as many fewer values as the predictor's order
abbrev pub IsPartitioned : ℕ → ℕ → ℕ → ℕ → List ℤ → List Bool → Type 0
IsPartitioned size block order parts =
    Either (can_be_partitioned block order parts)
    (InOrder (IsPartition size (block / 2 ^ parts - order)) (λ xs. InOrder (ArePartitions size (block / 2 ^ parts) (2 ^ parts - 1)) (λ ys. IsGiven (Some (xs ++ ys)))))
    IsNothing

-- a coded residual: the coding method, the partition order and the partitions
abbrev pub IsResidual : ℕ → ℕ → List ℤ → List Bool → Type 0
IsResidual block order =
    InOrder (IsNumber 2) (λ method. Either (nat_lt method 2) (InOrder (IsNumber 4) (λ parts. IsPartitioned (parameter_size method) block order parts)) IsNothing)
