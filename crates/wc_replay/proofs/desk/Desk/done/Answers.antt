use Rattle.std.proofs.Common.{◌≡◌, sym, ◌∙◌, ap, subst, Option, Some, None, ℕ, map}
use Rattle.codec_model.specs.{Control.kind_of, Replay.answer_to, Held.in_order}
use Rattle.codec_core.specs.{Codec.state_at, Job.JobValue, Job.wants}
use Rattle.codec_media.specs.Holding.{EndedValue}
use Rattle.media_variables.specs.Held.{pair_of}
use Rattle.run_model.specs.Follow.{outcome_for, done_entry}
use Rattle.wc_replay.specs.Desk.{IsDesk}
use Rattle.wc_replay.proofs.Desks.{seen, makes_seen, ended_makes}
use Rattle.wc_replay.proofs.Lent.{apart_running}
use Rattle.wc_replay.proofs.desk.Desk.done.Goals as goal

pub end_one-requires : goal.end_one-requires
end_one-requires g c =
    let d = c.self.inside in
    apart_running c.args.media.now (seen d.core.codec d.job d.refusal) c.args.self.now (map pair_of (in_order c.back.inside.media)) c.self.view_is
    (ap (λ (b : EndedValue). map pair_of (in_order b.media)) c.back.view_is ∙ c.done-back.ensures.gone) c.requires.lent

pub returns-in-Some : goal.returns-in-Some
returns-in-Some g c =
    let d = c.self.inside in
    let done = c.end_of_job-done.result in
    let there : d.job ≡ Some c.in-Some.job = cc in
    let kept : IsDesk d.core.codec (Some c.in-Some.job) d.refusal = subst (λ (o : Option JobValue). IsDesk d.core.codec o d.refusal) there c.self.invariant in
    let said = c.end_of_job-done.ensures in
    let ended = said.outcome (state_at d.core.codec) kept.matches in
    rw (c.take.ensures.after, c.take-in-Some.ensures.after, c.wants_memory-wanted.ensures) (makes_seen c.args.codec (λ v. done_entry (wants done.ended) c.args.moment v) c.args.slots.now c.give.new.slots c.args.media.now c.end_one.new.self (seen d.core.codec (Some c.in-Some.job) d.refusal) c.args.self.now (seen c.done-back.new.self.codec None None)
    (ap (λ (o : Option JobValue). seen d.core.codec o d.refusal) (sym there) ∙ c.self.view_is)
    (ended_makes c.args.codec d.core.codec c.done-back.new.self.codec c.in-Some.job done d.refusal c.args.moment (wants done.ended) c.args.slots.now c.give.new.slots c.args.media.now c.end_one.new.self (map pair_of (in_order c.back.inside.media)) c.back.inside.place c.back.inside.coder kept said.epoch said.number
    (ended ∙ ap (λ (r : Option ℕ). outcome_for (wants done.ended) r (answer_to (kind_of c.in-Some.job.work) (state_at d.core.codec).running_given)) c.take-in-Some.ensures.value) said.slot c.done-back.ensures.made c.done-back.ensures.slot
    (ap (λ (b : EndedValue). b.place) c.back.view_is ∙ c.done-back.ensures.place) (ap (λ (b : EndedValue). b.coder) c.back.view_is ∙ c.done-back.ensures.back) c.give.ensures
    (ap (λ (b : EndedValue). map pair_of (in_order b.media)) c.back.view_is ∙ c.done-back.ensures.gone) c.end_one.ensures))
