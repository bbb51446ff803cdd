use Rattle.std.proofs.Common.{length}
use Rattle.std.specs.List.{AllByRecursion}
use Rattle.report_reader.specs.Fits.{FitsShown}
use Rattle.report_reader.proofs.TraceLaws.{IsTracing}
use Rattle.report_reader.proofs.trace.trace_of.Given as goal

abbrev pub invariant-loop-rest : goal.invariant-loop-rest
invariant-loop-rest l = record {
  tracing : IsTracing l.script l.media l.known l.codec l.opening l.lines l.units l.follower l.entries.items l.shown.items l.rest l.left;
  fits : AllByRecursion FitsShown l.shown.items;
}

abbrev pub decreases-loop-rest : goal.decreases-loop-rest
decreases-loop-rest l = length l.rest
