use Rattle.std.proofs.Common.{◌∙◌, ap, sym, is_some, Option}
use Rattle.wc_config.specs.declared.codec.CoderId.{CoderId}
use Rattle.codec_core.specs.Codec.{state_at}
use Rattle.codec_core.specs.Job.{DoneValue, outcome_of}
use Rattle.codec_model.specs.declared.entry.{Ended.Ended, Entry.Entry, Outcome.Outcome}
use Rattle.codec_judge.specs.Lawful.{lack_at}
use Rattle.codec_judge.specs.Lender.{id_in}
use Rattle.codec_judge.proofs.Judging.{not_refused}
use Rattle.codec_judge.proofs.Ending.{end_entry, ended_judges, refusal_allowed}
use Rattle.codec_judge.proofs.judge.Judge.refuse.Goals as goal

pub returns-in-None : goal.returns-in-None
returns-in-None g c = not_refused c.args.lender.now c.args.self.now.core c.args.job c.args.moment c.args.refusal c.requires (sym c.in-None.ensures)

pub end_job-requires-clause-end : goal.end_job-requires-clause-end
end_job-requires-clause-end g c κs within = c.no_slot-done.ensures.end (state_at c.args.self.now.core) (c.in_ok-ready-in-Some.ensures.stays (state_at c.args.self.now.core) c.requires.job_out.matches)

pub end_job-requires-clause-own : goal.end_job-requires-clause-own
end_job-requires-clause-own g c κs within = c.no_slot-done.ensures.own c.args.self.now.core.out (c.in_ok-ready-in-Some.ensures.own c.args.self.now.core.out c.requires.job_out.own)

pub end_job-requires-clause-out : goal.end_job-requires-clause-out
end_job-requires-clause-out g c κs within = c.in_ok-ready-in-Some.ensures.out ∙ ap (λ (d : DoneValue). id_in d.coder) (sym c.no_slot-done.ensures.done)

pub returns-in_ok-end_job-in-Some : goal.returns-in_ok-end_job-in-Some
returns-in_ok-end_job-in-Some g c =
    let old = c.args.self.now.core in
    let d = c.no_slot-done.result in
    let said = c.in_ok-end_job-in-Some.ensures in
    ended_judges c.args.lender.now c.end_job.new.lender old c.end_job.new.core c.args.job (Entry.Done d.epoch d.number c.args.moment (outcome_of d.ended)) (Outcome.NoSlot c.args.refusal) c.args.moment c.requires said.made
    (end_entry c.args.job c.in_ok-ready-in-Some.ready d (Ended.NoSlot c.args.refusal) c.args.moment c.in_ok-ready-in-Some.ensures.same c.no_slot-done.ensures.done)
    (refusal_allowed c.args.lender.now.home (lack_at old.opening old.history) c.args.refusal (ap (λ (o : Option CoderId). is_some o) (sym (c.in-Some.ensures ∙ c.requires.job_out.lacks)))) said.idle (said.home ∙ c.in_ok-ready-in-Some.ensures.home) said.out
