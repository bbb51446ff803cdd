use Rattle.codec_core.proofs.Steps.{state_is}
use Rattle.codec_core.proofs.codec.Core.segments.Goals as goal

pub returns-clause-facts : goal.returns-clause-facts
returns-clause-facts g c =
    let kept = c.self.invariant.kept in
    rw (← c.self.view_is, state_is kept c.self.inside.spare c.self.inside.out) (c.never_stuck.ensures.facts c.self.inside.machine.opening c.self.inside.trace.entries kept.state kept.some_saturate kept.replays)
