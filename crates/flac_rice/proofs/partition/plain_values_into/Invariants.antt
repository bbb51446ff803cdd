use Rattle.std.proofs.Common.{◌≡◌, ◌-◌, ◌*◌, ◌≤◌, length, take}
use Rattle.flac_definitions.specs.Residual.{each_at, plain_at, behind_values}
use Rattle.flac_rice.proofs.partition.plain_values_into.Given as goal

abbrev pub invariant-loop-place : goal.invariant-loop-place
invariant-loop-place l =
    record {
      there : l.here ≤ 8 * length l.bytes;
      read : behind_values (take l.place-index l.out) (each_at (plain_at l.width) (length l.out - l.place-index) (record { bytes = l.bytes; at = l.here })) ≡ each_at (plain_at l.width) (length l.fn.out) (record { bytes = l.bytes; at = l.fn.at });
    }
