use Rattle.codec_core.specs.Codec.{state_at}
use Rattle.codec_judge.proofs.Judging.{none_taken, some_taken}
use Rattle.codec_judge.proofs.judge.may_take.Goals as goal

pub returns-in-Some : goal.returns-in-Some
returns-in-Some g c = rw c.taken.ensures (some_taken (state_at c.args.core.now).control c.args.unit c.in-Some.ensures.may)

pub returns-in-None : goal.returns-in-None
returns-in-None g c = none_taken (state_at c.args.core.now).control c.args.unit c.in-None.ensures.may
