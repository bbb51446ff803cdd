use Rattle.codec_drain.proofs.DrainLaws.{Going, far}
use Rattle.codec_drain.proofs.draining.drain.Given as goal

abbrev pub invariant-loop-made : goal.invariant-loop-made
invariant-loop-made g l = Going l.codec l.moment l.fn.core.codec l.core.codec l.slots l.fn.pool l.pool l.made

abbrev pub decreases-loop-made : goal.decreases-loop-made
decreases-loop-made g l = far l.core.codec l.made
