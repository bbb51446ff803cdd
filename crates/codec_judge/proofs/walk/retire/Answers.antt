use Rattle.std.proofs.Common.{◌∙◌, ap, sym, subst, Option}
use Rattle.std.proofs.lemmas.Result.{on_ok_weaker}
use Rattle.codec_core.specs.Codec.{state_at}
use Rattle.codec_core.specs.Job.{DoneValue, JobValue, outcome_of}
use Rattle.codec_judge.specs.Judge.{IsJudged}
use Rattle.codec_model.specs.declared.entry.Entry.{Entry}
use Rattle.codec_judge.specs.Lender.{id_in}
use Rattle.codec_judge.proofs.Walking.{front_before, front_same}
use Rattle.codec_judge.proofs.walk.retire.Goals as goal

pub returns-in-None-clause-front : goal.returns-in-None-clause-front
returns-in-None-clause-front g c = front_same c.args.core.now

pub end_job-requires-clause-end : goal.end_job-requires-clause-end
end_job-requires-clause-end g c κs within =
    let kept = subst (λ (o : Option JobValue). IsJudged c.args.core.now o c.args.lender.now) c.in-Some.is c.requires in
    c.no_memory-done.ensures.end (state_at c.args.core.now) (c.in_ok-ready-in-Some.ensures.stays (state_at c.args.core.now) kept.job_out.matches)

pub end_job-requires-clause-own : goal.end_job-requires-clause-own
end_job-requires-clause-own g c κs within =
    let kept = subst (λ (o : Option JobValue). IsJudged c.args.core.now o c.args.lender.now) c.in-Some.is c.requires in
    c.no_memory-done.ensures.own c.args.core.now.out (c.in_ok-ready-in-Some.ensures.own c.args.core.now.out kept.job_out.own)

pub end_job-requires-clause-out : goal.end_job-requires-clause-out
end_job-requires-clause-out g c κs within = c.in_ok-ready-in-Some.ensures.out ∙ ap (λ (d : DoneValue). id_in d.coder) (sym c.no_memory-done.ensures.done)

pub returns-in_ok-ready-in-Some-clause-front : goal.returns-in_ok-ready-in-Some-clause-front
returns-in_ok-ready-in-Some-clause-front g c = let d = c.no_memory-done.result in on_ok_weaker c.end_job.result (λ made. front_before c.args.core.now c.end_job.new.core (Entry.Done d.epoch d.number 0 (outcome_of d.ended)) made) c.end_job.ensures.made
