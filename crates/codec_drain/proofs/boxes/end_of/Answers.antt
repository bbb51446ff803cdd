use Rattle.std.proofs.Common.{arith}
use Rattle.codec_drain.proofs.DrainLaws.{own_stopped}
use Rattle.codec_drain.proofs.boxes.end_of.Goals as goal

pub give-requires-after_bounds : goal.give-requires-after_bounds
give-requires-after_bounds g c κs within =
    rw (c.place-place.ensures, c.emptied-job.ensures.place, c.emptied-job.ensures.slot)
    (own_stopped c.args.codec c.args.job.place c.args.job.place c.args.slots.now c.args.job.coder (omega arith) c.requires)
