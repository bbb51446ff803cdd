use Rattle.std.proofs.Common.{refl}
use Rattle.codec_live.specs.Job.{EndsWork}
use Rattle.codec_live.proofs.job.Job.perform.Given.{Over}
use Rattle.codec_live.proofs.Ends.{ends_or_wants, job_ends, job_answers}
use Rattle.codec_live.proofs.job.Job.perform.Goals as goal

ends : (g : Over) (c : goal.Joined-work g) → EndsWork c.self.inside.coder c.self.inside.work c.with_label-ended.result.0 c.work_end-end.new.coder
ends g c = ends_or_wants c.self.inside.coder c.work_end-end.new.coder c.self.inside.work c.work_end-end.result c.with_label-ended.result.0 c.work_end-end.ensures c.with_label-ended.ensures.end

pub returns-clause-end : goal.returns-clause-end
returns-clause-end g c = λ s is. job_ends s _ _ (rw (← c.self.view_is) at is) refl refl c.kind-kind.ensures (ends g c)

pub returns-clause-answer : goal.returns-clause-answer
returns-clause-answer g c = λ given is. rw (← c.self.view_is) (job_answers given _ c.with_label-ended.result.0 c.work_end-end.new.coder (rw (← c.self.view_is) at is) (ends g c))

pub invariant_of-result : goal.invariant_of-result
invariant_of-result g c = record { labels = c.with_label-ended.ensures.label; ready = (ends g c).ready }
