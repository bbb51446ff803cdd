use Rattle.std.proofs.Common.{arith}
use Rattle.raw_video.proofs.PictureLaws.{added_by}
use Rattle.raw_video.proofs.picture.add.Goals as goal

pub returns : goal.returns
returns c =
    added_by c.args.to.now c.args.delta.now c.loop-i.to c.loop-i.auto.to (λ j below. c.loop-i.invariant.done j (omega (arith, below, c.loop-i-test.false)))
