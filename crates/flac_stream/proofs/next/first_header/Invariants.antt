use Rattle.std.proofs.Common.{◌-◌, ◌≤◌, length}
use Rattle.flac_stream.specs.Next.{FailsBetween, has_header}
use Rattle.flac_stream.proofs.next.first_header.Given as goal

abbrev pub invariant-loop-at : goal.invariant-loop-at
invariant-loop-at l =
    record {
      behind : l.from ≤ l.at;
      none : FailsBetween (has_header l.info l.bytes) l.from l.at;
    }

abbrev pub decreases-loop-at : goal.decreases-loop-at
decreases-loop-at l = length l.bytes - l.at
