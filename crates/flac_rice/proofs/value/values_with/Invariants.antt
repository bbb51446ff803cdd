use Rattle.std.proofs.Common.{◌≡◌, ◌-◌, length, take}
use Rattle.flac_definitions.specs.Residual.{each_at, value_at, behind_values}
use Rattle.flac_rice.specs.Reading.{IsAhead}
use Rattle.flac_rice.proofs.value.values_with.Given as goal

abbrev pub invariant-loop-i : goal.invariant-loop-i
invariant-loop-i l =
    record {
      size : length l.out ≡ length l.fn.out;
      ahead : IsAhead l.bytes l.ahead.end l.ahead.window.word l.ahead.window.valid;
      read : behind_values (take l.i l.out) (each_at (value_at l.parameter) (length l.out - l.i) (record { bytes = l.bytes; at = l.ahead.end - l.ahead.window.valid })) ≡ each_at (value_at l.parameter) (length l.fn.out) (record { bytes = l.bytes; at = l.fn.at });
    }
