use Rattle.std.proofs.Common.{◌∙◌, ap, sym}
use Rattle.codec_core.specs.Codec.{state_at}
use Rattle.codec_core.specs.Job.{DoneValue, outcome_of}
use Rattle.codec_model.specs.declared.entry.{Ended.Ended, Entry.Entry, Outcome.Outcome}
use Rattle.codec_judge.specs.Lawful.{lack_at}
use Rattle.codec_judge.specs.Lender.{id_in}
use Rattle.codec_judge.proofs.Judging.{starved_allowed}
use Rattle.codec_judge.proofs.Ending.{end_entry, ended_judges}
use Rattle.codec_judge.proofs.judge.Judge.starve.Goals as goal

pub end_job-requires-clause-end : goal.end_job-requires-clause-end
end_job-requires-clause-end g c κs within = c.no_memory-done.ensures.end (state_at c.args.self.now.core) (c.in_ok-ready.ensures.stays (state_at c.args.self.now.core) c.requires.job_out.matches)

pub end_job-requires-clause-own : goal.end_job-requires-clause-own
end_job-requires-clause-own g c κs within = c.no_memory-done.ensures.own c.args.self.now.core.out (c.in_ok-ready.ensures.own c.args.self.now.core.out c.requires.job_out.own)

pub end_job-requires-clause-out : goal.end_job-requires-clause-out
end_job-requires-clause-out g c κs within = c.in_ok-ready.ensures.out ∙ ap (λ (d : DoneValue). id_in d.coder) (sym c.no_memory-done.ensures.done)

pub returns : goal.returns
returns g c =
    let old = c.args.self.now.core in
    let d = c.no_memory-done.result in
    let said = c.in_ok-end_job.ensures in
    ended_judges c.args.lender.now c.end_job.new.lender old c.end_job.new.core c.args.job (Entry.Done d.epoch d.number c.args.moment (outcome_of d.ended)) Outcome.NoMemory c.args.moment c.requires said.made
    (end_entry c.args.job c.in_ok-ready.ready d Ended.NoMemory c.args.moment c.in_ok-ready.ensures.same c.no_memory-done.ensures.done)
    (starved_allowed c.args.lender.now.home (lack_at old.opening old.history)) said.idle (said.home ∙ c.in_ok-ready.ensures.home) said.out
