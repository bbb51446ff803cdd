use Rattle.std.proofs.Common.{rules, arith}
use Rattle.codec_queues.proofs.{Room.late_runs, Roomy.roomy, Rising.rising_next}
use Rattle.codec_queues.proofs.machine.Machine.done.Goals as goal

pub invariant_of-self-else-r-epoch : goal.invariant_of-self-else-r-epoch
invariant_of-self-else-r-epoch c =
    let late = late_runs c.self.inside.queues.epoch c.in-Some.r c.self.inside.running (search rules) (search rules) in
    roomy _ (omega (arith, c.self.invariant, late)) tt (rising_next c.self.inside.pending.items c.self.inside.place c.self.invariant.promises)
