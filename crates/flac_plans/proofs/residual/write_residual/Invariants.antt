use Rattle.std.proofs.Common.{◌≡◌, ◌++◌, map, slice_index}
use Rattle.std.specs.List.{flat_map, range_with_len}
use Rattle.flac_definitions.specs.Bits.{bits_of}
use Rattle.flac_definitions.specs.ResidualSpelling.{folded_value}
use Rattle.flac_definitions.specs.Plans.{part_of}
use Rattle.flac_definitions.specs.ResidualWriting.{part_spelled}
use Rattle.flac_plans.proofs.residual.write_residual.Given as goal

abbrev pub invariant-loop-j : goal.invariant-loop-j
invariant-loop-j l = l.w ≡ l.fn.w ++ ((bits_of 2 0 ++ bits_of 4 l.plan.partition) ++ flat_map (λ j. part_spelled (slice_index l.plan.parameters.items j) (part_of l.size l.order (map folded_value l.residual) j)) (range_with_len 0 l.j))
