use Rattle.std.proofs.Common.{arith}
use Rattle.codec_media.proofs.Holds.{start_holds}
use Rattle.codec_media.proofs.codec.HoldingCore.start.Goals as goal

pub invariant_of-self-2 : goal.invariant_of-self-2
invariant_of-self-2 g c =
    let i = c.self.inside in (
      start_holds c.references_are_held.ensures.apart c.held.result i.core c.start.new.self c.in_ok-job.job.epoch c.in_ok-job.job.number c.in_ok-job.job.work i.working c.take_if.new.working i.waiting.items c.take_if.new.waiting.items
          c.held.ensures c.in_ok-job.ensures.some c.in_ok-job.ensures.item (rw c.is_some-wanted.ensures at c.take_if.ensures.taken) c.self.invariant.0,
      c.self.invariant.1,
      c.self.invariant.2,
      omega (arith, c.take_if.ensures.len, c.self.invariant.3),
    )
