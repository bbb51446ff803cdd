use Rattle.std.proofs.Common.{arith}
use Rattle.std.proofs.lemmas.Grind.{common_steps}
use Rattle.report_reader.specs.Fits.{FitsEvent}
use Rattle.report_reader.proofs.FitLaws.{all_more}
use Rattle.report_reader.proofs.trace.filled.Goals as goal

pub loop-rest-preserved : goal.loop-rest-preserved
loop-rest-preserved c = record {
  events = grind (arith, common_steps);
  left = grind (arith, common_steps);
  fits = rw c.in_ok-push.ensures (all_more FitsEvent c.loop-rest.made.items _ c.loop-rest.invariant.fits c.in_ok-event_made.ensures.fits);
}
