use Rattle.std.proofs.Common.{◌++◌, map, take}
use Rattle.std.specs.List.{flat_map}
use Rattle.flac_definitions.specs.Bits.{bits_of}
use Rattle.flac_definitions.specs.ResidualSpelling.{folded_value}
use Rattle.flac_definitions.specs.ResidualWriting.{rice_bits}
use Rattle.flac_plans.specs.Held.{IsHeld, IsHeldWord}
use Rattle.flac_plans.proofs.residual.write_part.Given as goal

abbrev pub invariant-loop-value : goal.invariant-loop-value
invariant-loop-value l = record {
  word : IsHeldWord l.held;
  held : IsHeld l.fn.w (bits_of 4 l.k ++ flat_map (rice_bits l.k) (map folded_value (take l.value-index l.values))) l.w l.held;
}
