-- The law of written residuals.
use Rattle.std.specs.Prelude.{ℕ, ℤ, ◌≡◌, ◌≤◌, ◌<◌, ◌+◌, ◌^◌, true, List, length, map, slice_index, Ok}
use Rattle.std.specs.List.{All}
use Rattle.flac_definitions.specs.Bits.{Place, Begins, forward}
use Rattle.flac_definitions.specs.Residual.{residual_at}
use Rattle.flac_definitions.specs.ResidualSpelling.{IsResidual, IsInRange, folded_value}
use Rattle.flac_definitions.specs.Plans.{fits}
use Rattle.flac_definitions.specs.ResidualWriting.{residual_bits}

-- a residual that can be written with a partition order and parameters
pub record IsWritable (block order p : ℕ) (xs : List ℤ) (parameters : List ℕ) : Type 0 where
  pub count : length xs + order ≡ block
  pub partition : p ≤ 15
  pub fitting : fits block order p ≡ true
  pub small : (j : ℕ) → j < 2 ^ p → slice_index parameters j ≤ 14
  pub range : All IsInRange xs

-- What is written of a residual spells it, and where it stands, the residual is read.
pub record WrittenResidualsAreRead : Type 0 where
  pub spelled : (block order p : ℕ) (xs : List ℤ) (parameters : List ℕ) → IsWritable block order p xs parameters
      → IsResidual block order xs (residual_bits block order (map folded_value xs) p parameters)
  pub read : (block order p : ℕ) (xs : List ℤ) (parameters : List ℕ) (q : Place) → IsWritable block order p xs parameters
      → Begins q (residual_bits block order (map folded_value xs) p parameters)
      → residual_at block order q
      ≡ Ok (xs, forward (length (residual_bits block order (map folded_value xs) p parameters)) q)
