use Rattle.std.proofs.Common.{◌≡◌, ◌+◌, length}
use Rattle.codec_laws.specs.Seen.{fall_from}
use Rattle.codec_laws.proofs.falls.first_fall.Given as goal

abbrev pub invariant-loop-rest : goal.invariant-loop-rest
invariant-loop-rest l = record {
  found : fall_from l.after l.before l.place l.size l.rest ≡ fall_from l.after l.before 0 0 l.seen;
  long : l.place + length l.rest ≡ length l.seen;
}

abbrev pub decreases-loop-rest : goal.decreases-loop-rest
decreases-loop-rest l = length l.rest
