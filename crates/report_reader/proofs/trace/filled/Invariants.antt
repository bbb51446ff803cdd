use Rattle.std.proofs.Common.{◌≡◌, ◌++◌, length}
use Rattle.std.specs.List.{AllByRecursion}
use Rattle.codec_follow.specs.Follow.{filled}
use Rattle.report_reader.specs.Fits.{FitsEvent}
use Rattle.report_reader.proofs.trace.filled.Given as goal

abbrev pub invariant-loop-rest : goal.invariant-loop-rest
invariant-loop-rest l = record {
  events : l.made.items ++ (filled l.kind l.rest l.left).0 ≡ (filled l.kind l.events l.units).0;
  left : (filled l.kind l.rest l.left).1 ≡ (filled l.kind l.events l.units).1;
  fits : AllByRecursion FitsEvent l.made.items;
}

abbrev pub decreases-loop-rest : goal.decreases-loop-rest
decreases-loop-rest l = length l.rest
