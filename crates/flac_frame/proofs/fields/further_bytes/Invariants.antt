use Rattle.std.proofs.Common.{◌≡◌, ◌+◌, ◌-◌, ◌<◌, ◌^◌}
use Rattle.flac_definitions.specs.Header.{further_bytes_at}
use Rattle.flac_frame.specs.Reading.{Onward}
use Rattle.flac_frame.proofs.fields.further_bytes.Given as goal

abbrev pub invariant-loop-i : goal.invariant-loop-i
invariant-loop-i l =
    record {
      small : l.so_far < 64 ^ (l._i + 1);
      onward : Onward l.fn.r l.r;
      read : further_bytes_at l.start (l.count - l._i) l.so_far l.r ≡ further_bytes_at l.start l.count l.number l.fn.r;
    }
