use Rattle.std.proofs.Common.{◌∙◌, arith}
use Rattle.raw_video.proofs.PictureLaws.{subtracted_by}
use Rattle.raw_video.proofs.deltas.subtract.Goals as goal

pub returns : goal.returns
returns c =
    subtracted_by c.args.picture.now c.args.last.now c.loop-i.to (c.loop-i.invariant.long ∙ c.requires.long) (λ j below. c.loop-i.invariant.done j (omega (arith, below, c.loop-i-test.false, c.loop-i.invariant.long, c.requires.long)))
