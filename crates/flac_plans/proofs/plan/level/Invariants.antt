use Rattle.std.proofs.Common.{◌≡◌, ◌≤◌, ◌+◌, ◌*◌, ◌^◌, map, sum_by}
use Rattle.std.specs.List.{range_with_len}
use Rattle.flac_definitions.specs.Plans.{best_parameter, part_of, part_bits}
use Rattle.flac_plans.proofs.plan.level.Given as goal

abbrev pub invariant-loop-j : goal.invariant-loop-j
invariant-loop-j l = record {
  parameters : l.parameters.items ≡ map (λ j. best_parameter (part_of l.size l.order l.zs j)) (range_with_len 0 l.j);
  bits : l.bits ≡ 6 + sum_by (λ j. part_bits (part_of l.size l.order l.zs j)) (range_with_len 0 l.j);
  bound : l.bits ≤ 6 + l.j * (4 + 65535 * (2 ^ 32 + 15));
}
