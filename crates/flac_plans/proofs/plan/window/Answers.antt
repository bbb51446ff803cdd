use Rattle.std.proofs.Common.{arith, ◌<◌}
use Rattle.flac_definitions.specs.Plans.{part_of}
use Rattle.flac_plans.proofs.Windows.{window_wider}
use Rattle.flac_plans.proofs.Rows.{windows_more}
use Rattle.flac_plans.proofs.plan.window.Goals as goal

pub loop-j-preserved : goal.loop-j-preserved
loop-j-preserved c =
    let w = c.loop-j.window in
    let r = c.narrowed_by-window.result in
    record {
      fits = windows_more w.low w.high r.low r.high c.args.size c.args.order c.args.zs.now c.part.result.now c.loop-j.j c.loop-j.invariant.fits c.narrowed_by-window.ensures.low_below c.narrowed_by-window.ensures.high_above c.narrowed_by-window.ensures.fits c.part.ensures.value;
      low = omega (arith, c.loop-j.invariant.low, c.narrowed_by-window.ensures.low_below);
      high = c.narrowed_by-window.ensures.most;
    }

pub returns-clause-fits : goal.returns-clause-fits
returns-clause-fits c = λ j l.
    let all : j < c.loop-j.j = omega (arith, l) in
    window_wider c.loop-j.window.low c.loop-j.window.high c.loop-j.window.low c.max.result (part_of c.args.size c.args.order c.args.zs.now j) (c.loop-j.invariant.fits j all) (omega arith) (omega arith)
