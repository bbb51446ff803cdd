use Rattle.std.proofs.Common.{◌∙◌, ap, sym, subst, Bool}
use Rattle.codec_core.specs.Codec.{state_at}
use Rattle.codec_core.specs.Job.{JobValue}
use Rattle.codec_judge.specs.Judge.{IsFilled}
use Rattle.codec_core.specs.Job.{missing_id}
use Rattle.codec_judge.proofs.Ending.{filled_has, filled_none, not_filled, same_id, same_kind, worked_judges}
use Rattle.codec_judge.proofs.judge.Judge.perform.Goals as goal

pub returns-then-not-served : goal.returns-then-not-served
returns-then-not-served g c =
    let old = c.args.self.now.core in
    let said = c.in_ok-ready.ensures in
    not_filled c.args.lender.now c.filled.new.lender old c.args.job c.in_ok-ready.ready c.args.outcome c.args.moment c.requires.stands c.requires.worked
    (subst (λ (b : Bool). IsFilled c.args.lender.now.home (missing_id c.args.job) b (missing_id c.in_ok-ready.ready)) c.if-not-served.true said.filled)
    (said.stays (state_at old) c.requires.stands.job_out.matches) (said.own old.out c.requires.stands.job_out.own) said.home said.out

pub perform-done-requires-after_bounds : goal.perform-done-requires-after_bounds
perform-done-requires-after_bounds g c κs within = filled_none c.args.lender.now.home (missing_id c.args.job) (missing_id c.in_ok-ready.ready) c.in_ok-ready.served c.in_ok-ready.ensures.filled c.if-not-served.false

pub end_job-requires-clause-end : goal.end_job-requires-clause-end
end_job-requires-clause-end g c κs within = c.perform-done.ensures.end (state_at c.args.self.now.core) (c.in_ok-ready.ensures.stays (state_at c.args.self.now.core) c.requires.stands.job_out.matches)

pub end_job-requires-clause-own : goal.end_job-requires-clause-own
end_job-requires-clause-own g c κs within = c.perform-done.ensures.own c.args.self.now.core.out (c.in_ok-ready.ensures.own c.args.self.now.core.out c.requires.stands.job_out.own)

pub end_job-requires-clause-out : goal.end_job-requires-clause-out
end_job-requires-clause-out g c κs within = c.in_ok-ready.ensures.out ∙ sym (same_id c.perform-done.result.coder c.in_ok-ready.ready.coder c.perform-done.ensures.same)

pub returns : goal.returns
returns g c =
    let old = c.args.self.now.core in
    let l = c.args.lender.now in
    let job = c.args.job in
    let ready = c.in_ok-ready.ready in
    let filled = c.in_ok-ready.ensures in
    let d = c.perform-done.result in
    let did = c.perform-done.ensures in
    let said = c.in_ok-end_job.ensures in
    let there = c.requires.stands.job_out.matches in
    worked_judges l c.end_job.new.lender old c.end_job.new.core job d c.args.moment
    (record {
      stands = c.requires.stands;
      made = said.made;
      epoch = did.epoch ∙ ap (λ (j : JobValue). j.epoch) filled.same;
      number = did.number ∙ ap (λ (j : JobValue). j.number) filled.same;
      answer = same_kind job ready (state_at old).running_given d.ended filled.same (did.answer (state_at old).running_given (filled.stays (state_at old) there).given);
      wanted = sym c.wants_memory.ensures ∙ c.if-wants_memory.false;
      idle = said.idle;
      home = said.home ∙ filled.home;
      out = said.out;
      has = filled_has l.home (missing_id job) (missing_id ready) c.in_ok-ready.served filled.filled c.if-not-served.false;
    })
    c.args.outcome c.requires.worked c.is_end_by.result c.look-place.result.0 c.look-place.ensures.entries c.is_end_by.ensures.yes c.is_end_by.ensures.no
