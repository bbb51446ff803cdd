use Rattle.std.proofs.Common.{◌≡◌, suc, ◌+◌, ◌-◌, refl, ◌∙◌, arith, append_assoc}
use Rattle.report_reader.specs.Fits.{FitsTrace}
use Rattle.report_reader.proofs.FitLaws.{all_more}
use Rattle.report_reader.proofs.trace.codecs_of.Goals as goal

pub loop-codec-preserved : goal.loop-codec-preserved
loop-codec-preserved c =
    let count : c.args.count - c.loop-codec.codec ≡ suc (c.args.count - (c.loop-codec.codec + 1)) = omega arith in
    record {
      codecs = rw (c.in_ok-push.ensures, c.in_ok-trace.ensures.codec, c.in_ok-trace.ensures.behind) (rw count at c.loop-codec.invariant.codecs ∙ rw append_assoc refl);
      fits = rw c.in_ok-push.ensures (all_more FitsTrace c.loop-codec.codecs.items _ c.loop-codec.invariant.fits c.in_ok-trace.ensures.fits);
    }
