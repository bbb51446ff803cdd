use Rattle.std.proofs.Common.{◌<◌, length, arith}
use Rattle.report_reader.specs.Fits.{FitsShown}
use Rattle.report_reader.proofs.FitLaws.{all_more}
use Rattle.report_reader.proofs.TraceLaws.{tracing_start, tracing_more, tracing_stop, head_is}
use Rattle.report_reader.proofs.trace.trace_of.Goals as goal

pub loop-rest-init : goal.loop-rest-init
loop-rest-init c = rw (c.new-entries.ensures, c.new-shown.ensures) (record {
  tracing = tracing_start c.args.script.now c.args.media.now c.args.known.now c.args.codec c.args.opening c.args.lines.now c.args.units.now _ c.in_ok-follower.ensures;
  fits = tt;
})

pub returns-in-None-clause-trace : goal.returns-in-None-clause-trace
returns-in-None-clause-trace c =
    let some : 0 < length c.loop-rest.rest.now = omega (arith, c.in-len1-up.len_at_least) in
    tracing_stop c.args.script.now c.args.media.now c.args.known.now c.args.codec c.args.opening c.args.lines.now c.args.units.now c.loop-rest.follower _ c.loop-rest.entries.items c.loop-rest.shown.items _ c.loop-rest.rest.now c.loop-rest.left.now _ some
    (head_is c.loop-rest.rest.now _ some) c.loop-rest.invariant.tracing (rw (c.in-None.is, c.place_behind-place.ensures) at c.in_ok-next_entry.ensures) c.trace_with.ensures

pub loop-rest-preserved : goal.loop-rest-preserved
loop-rest-preserved c =
    let some : 0 < length c.loop-rest.rest.now = omega (arith, c.in-len1-up.len_at_least) in
    record {
      tracing = tracing_more c.args.script.now c.args.media.now c.args.known.now c.args.codec c.args.opening c.args.lines.now c.args.units.now c.loop-rest.follower _ c.loop-rest.entries.items _ c.loop-rest.shown.items _ _ c.loop-rest.rest.now c.loop-rest.left.now _ c.in-Some.entry c.in-Some.blank _ c.in_ok-events-in-Some.events.items some
          (head_is c.loop-rest.rest.now _ some) c.loop-rest.invariant.tracing (rw (c.in-Some.is, c.place_behind-place.ensures) at c.in_ok-next_entry.ensures) (rw c.as_slice.ensures at c.in_ok-events-in-Some.ensures.events) (rw c.as_slice.ensures at c.in_ok-events-in-Some.ensures.left) c.shown_with.ensures c.in_ok-try_push-in-Some.ensures.ok c.in_ok-try_push-in-Some-2.ensures.ok;
      fits = rw (c.in_ok-try_push-in-Some-2.ensures.ok, c.shown_with.ensures) (all_more FitsShown c.loop-rest.shown.items _ c.loop-rest.invariant.fits c.in_ok-events-in-Some.ensures.fits);
    }
