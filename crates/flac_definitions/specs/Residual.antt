-- Coded residuals (RFC 9639, section 9.2.7), as they are read: each reader gives a value and the place behind it, or the
-- first fault.
use Rattle.std.specs.Prelude.{ℕ, zero, suc, ℤ, pos, negsuc, ◌+◌, ◌-◌, ◌*◌, ◌/◌, ◌%◌, ◌^◌, ◌==◌, ◌&&◌, nat_lt, Bool, List, [], ◌∷◌, ◌++◌, Result, Ok, Err, if◌then◌else◌}
use Rattle.flac_definitions.specs.Bits.{Place, number_at, zeros_at}
use Rattle.flac_definitions.specs.Results.{◌>>=◌, or_fault}
use Rattle.flac_definitions.specs.declared.fault.ResidualFault.{ResidualFault}
use Rattle.flac_definitions.specs.declared.fault.ResidualFault.TheVariants as fault

-- the value that a folded number stands for: even numbers for 0, 1, 2, .., odd ones for -1, -2, .. (section 9.2.7.2)
abbrev pub unfolded_value : ℕ → ℤ
unfolded_value z = if z % 2 == 0 then pos (z / 2) else negsuc (z / 2)

-- the value of a folded number, if it lies from -2 ^ 31 + 1 to 2 ^ 31 - 1 (section 9.2.7.3)
abbrev pub value_in_range : ℕ → ℕ → ℕ × Place → Result (ℤ × Place) ResidualFault
value_in_range start z x = if nat_lt z (2 ^ 32 - 1) then Ok (unfolded_value z, x.1) else Err (fault.Range start)

-- a value's code: zeros and a 1, and as many bits as the parameter says (section 9.2.7.2)
abbrev pub value_at : ℕ → Place → Result (ℤ × Place) ResidualFault
value_at k p =
    or_fault (fault.Short p.at) (zeros_at p) >>= λ q.
    or_fault (fault.Short p.at) (number_at k q.1) >>= λ low.
    value_in_range p.at (q.0 * 2 ^ k + low.0) low

-- the number that so many bits are in two's complement; no bits are 0
abbrev pub signed_number : ℕ → ℕ → ℤ
signed_number zero n = pos 0
signed_number (suc size) n = if nat_lt n (2 ^ size) then pos n else negsuc (2 ^ (suc size) - 1 - n)

-- a plain value of so many bits
abbrev pub plain_at : ℕ → Place → Result (ℤ × Place) ResidualFault
plain_at size p = or_fault (fault.Short p.at) (number_at size p) >>= λ x. Ok (signed_number size x.0, x.1)

-- values that were read, in front of those that are read behind them
abbrev pub behind_values : {E : Type 0} → List ℤ → Result (List ℤ × Place) E → Result (List ℤ × Place) E
behind_values front (Ok x) = Ok (front ++ x.0, x.1)
behind_values front (Err e) = Err e

-- so many values one after another
abbrev pub each_at : {E : Type 0} → (Place → Result (ℤ × Place) E) → ℕ → Place → Result (List ℤ × Place) E
each_at one zero p = Ok ([], p)
each_at one (suc n) p = one p >>= λ x. behind_values (x.0 ∷ []) (each_at one n x.1)

-- an escaped partition of so many values: their width in 5 bits, and plain values of that width (section 9.2.7.1)
abbrev pub escaped_partition_at : ℕ → Place → Result (List ℤ × Place) ResidualFault
escaped_partition_at n p = or_fault (fault.Short p.at) (number_at 5 p) >>= λ width. each_at (plain_at width.0) n width.1

-- a partition of so many values: a parameter of `size` bits, of which all ones are the escape
abbrev pub partition_at : ℕ → ℕ → Place → Result (List ℤ × Place) ResidualFault
partition_at size n p =
    or_fault (fault.Short p.at) (number_at size p) >>= λ k.
    if k.0 == 2 ^ size - 1 then escaped_partition_at n k.1 else each_at (value_at k.0) n k.1

-- partitions of so many values each
abbrev pub partitions_at : ℕ → ℕ → ℕ → Place → Result (List ℤ × Place) ResidualFault
partitions_at size each zero p = Ok ([], p)
partitions_at size each (suc n) p = partition_at size each p >>= λ x. behind_values x.0 (partitions_at size each n x.1)

-- a first partition, which may be shorter, and the others
abbrev pub all_partitions_at : ℕ → ℕ → ℕ → ℕ → Place → Result (List ℤ × Place) ResidualFault
all_partitions_at size first each n p = partition_at size first p >>= λ x. behind_values x.0 (partitions_at size each n x.1)

-- a block can be cut into 2 ^ parts partitions, each longer than the predictor's order (section 9.2.7)
abbrev pub can_be_partitioned : ℕ → ℕ → ℕ → Bool
can_be_partitioned block order parts = (block % 2 ^ parts == 0) && nat_lt order (block / 2 ^ parts)

-- the bits of a parameter
abbrev pub parameter_size : ℕ → ℕ
parameter_size method = if method == 0 then 4 else 5

-- what stands behind the partition order, and behind the coding method; either field begins at `start`
abbrev pub behind_partition_order : ℕ → ℕ → ℕ → ℕ → ℕ × Place → Result (List ℤ × Place) ResidualFault
behind_partition_order method block order start parts =
    if can_be_partitioned block order parts.0
    then all_partitions_at (parameter_size method) (block / 2 ^ parts.0 - order) (block / 2 ^ parts.0) (2 ^ parts.0 - 1) parts.1
    else Err (fault.Reserved start)

abbrev pub behind_coding_method : ℕ → ℕ → ℕ → ℕ × Place → Result (List ℤ × Place) ResidualFault
behind_coding_method block order start method =
    if nat_lt method.0 2
    then or_fault (fault.Short method.1.at) (number_at 4 method.1) >>= behind_partition_order method.0 block order method.1.at
    else Err (fault.Reserved start)

-- the coded residual of a block of so many samples behind a predictor of an order: `block - order` values
abbrev pub residual_at : ℕ → ℕ → Place → Result (List ℤ × Place) ResidualFault
residual_at block order p = or_fault (fault.Short p.at) (number_at 2 p) >>= behind_coding_method block order p.at
