use Rattle.codec_core.proofs.Owning.{none_asked}
use Rattle.codec_core.proofs.job.Job.no_memory.Goals as goal

pub returns-clause-own : goal.returns-clause-own
returns-clause-own g c = λ at own. rw c.ended.ensures (none_asked at c.args.self own c.requires.none)
