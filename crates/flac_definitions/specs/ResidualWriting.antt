-- How a residual is written with a plan (RFC 9639, section 9.2.7): method 0, no escapes.
use Rattle.std.specs.Prelude.{ℕ, ◌/◌, ◌^◌, Bool, true, false, List, [], ◌∷◌, ◌++◌, replicate, slice_index}
use Rattle.std.specs.List.{flat_map, range_with_len}
use Rattle.flac_definitions.specs.Bits.{bits_of}
use Rattle.flac_definitions.specs.Plans.{part_of}

-- a folded value's code: zeros, a 1 and the low bits (section 9.2.7.2)
abbrev pub rice_bits : ℕ → ℕ → List Bool
rice_bits k z = (replicate (z / 2 ^ k) false ++ true ∷ []) ++ bits_of k z

-- a part: its parameter, and its values
abbrev pub part_spelled : ℕ → List ℕ → List Bool
part_spelled k zs = bits_of 4 k ++ flat_map (rice_bits k) zs

-- the coding method, the partition order and the parts of folded values
abbrev pub residual_bits : ℕ → ℕ → List ℕ → ℕ → List ℕ → List Bool
residual_bits block order zs p parameters =
    (bits_of 2 0 ++ bits_of 4 p)
    ++ flat_map (λ j. part_spelled (slice_index parameters j) (part_of (block / 2 ^ p) order zs j)) (range_with_len 0 (2 ^ p))
