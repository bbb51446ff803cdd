use Rattle.std.proofs.Common.{◌≡◌, ◌+◌, ◌-◌, ◌*◌, ◌≤◌, length, take}
use Rattle.flac_definitions.specs.Residual.{partitions_at, all_partitions_at, behind_values}
use Rattle.flac_rice.proofs.partition.all_partitions_into.Given as goal

abbrev pub invariant-loop-i : goal.invariant-loop-i
invariant-loop-i l =
    record {
      there : l.here ≤ 8 * length l.bytes;
      done : l.done ≡ l.first + l._i * l.each;
      size : length l.out ≡ l.first + l.rest * l.each;
      read : behind_values (take l.done l.out) (partitions_at l.size l.each (l.rest - l._i) (record { bytes = l.bytes; at = l.here })) ≡ all_partitions_at l.size l.first l.each l.rest (record { bytes = l.bytes; at = l.fn.at });
    }
