use Rattle.codec_model.specs.{Control.kind_of, Replay.answer_to}
use Rattle.wc_replay.proofs.Desks.{outcome_is}
use Rattle.wc_replay.proofs.desk.end_of_job.Goals as goal

pub returns-else-is_some-clause-outcome : goal.returns-else-is_some-clause-outcome
returns-else-is_some-clause-outcome g c = λ s is.
    rw c.in-None.is (outcome_is (answer_to (kind_of c.args.job.work) s.running_given) c.run.result.ended (c.run.ensures.answer s.running_given is.given))
