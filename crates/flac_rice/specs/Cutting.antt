-- How a residual is cut into partitions.
use Rattle.std.specs.Prelude.{ℕ, ℤ, ◌≡◌, ◌+◌, ◌-◌, List, Result, Ok, Err}
use Rattle.flac_definitions.specs.Bits.{Place}
use Rattle.flac_definitions.specs.declared.fault.ResidualFault.{ResidualFault}
use Rattle.flac_definitions.specs.Residual.{all_partitions_at}
use Rattle.flac_rice.specs.Reading.{place_in}
use Rattle.flac_rice.specs.declared.residual.Cut.{Cut}

-- what is read are the partitions behind six bits, or a fault of these bits
abbrev pub IsCut : Result (List ℤ × Place) ResidualFault → ℕ → List ℕ → ℕ → Result Cut ResidualFault → Type 0
IsCut read order bytes at (Ok c) = read ≡ all_partitions_at c.size (c.each - order) c.each c.rest (place_in bytes (at + 6))
IsCut read order bytes at (Err e) = read ≡ Err e
