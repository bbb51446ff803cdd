use Rattle.std.proofs.Common.{◌∙◌, sym, subst, Option}
use Rattle.std.specs.Prelude.{◌==◌, IfOk}
use Rattle.std.proofs.lemmas.Bool.{and_parts, eqb-true}
use Rattle.codec_core.specs.Job.{JobValue}
use Rattle.codec_model.specs.declared.entry.Entry.{Entry}
use Rattle.codec_judge.specs.Judge.{IsJudged, Judges}
use Rattle.codec_judge.proofs.Judging.{not_at_work, other_at_work, same_at_work}
use Rattle.codec_judge.proofs.judge.Judge.done.Goals as goal

pub returns-in_default : goal.returns-in_default
returns-in_default g c =
    let core = c.args.self.now.core in
    let l = c.args.lender.now in
    rw c.take.ensures.after (not_at_work l core c.args.epoch c.args.item c.args.moment c.args.outcome (subst (λ (o : Option JobValue). IsJudged core o l) (sym c.in_default.ensures.value) c.requires))

pub end-requires-after_bounds : goal.end-requires-after_bounds
end-requires-after_bounds g c κs within = subst (λ (o : Option JobValue). IsJudged c.args.self.now.core o c.args.lender.now) (sym c.in-Some.ensures.value) c.requires

pub returns-then-is_of : goal.returns-then-is_of
returns-then-is_of g c =
    let job = c.in-Some.job in
    let both = and_parts (job.epoch == c.args.epoch) (job.number == c.args.item) (sym c.is_of.ensures ∙ c.if-is_of.true) in
    subst (λ (e : Entry). IfOk c.end.result (λ b. Judges c.args.lender.now c.args.self.now.core e b c.end.new.self.core c.end.new.self.job c.end.new.lender))
    (same_at_work job c.args.epoch c.args.item c.args.moment c.args.outcome (eqb-true job.epoch c.args.epoch both.0) (eqb-true job.number c.args.item both.1)) c.end.ensures

pub returns-else-is_of : goal.returns-else-is_of
returns-else-is_of g c =
    let core = c.args.self.now.core in
    let l = c.args.lender.now in
    other_at_work l core c.in-Some.job c.args.epoch c.args.item c.args.moment c.args.outcome
    (subst (λ (o : Option JobValue). IsJudged core o l) (sym c.in-Some.ensures.value) c.requires) (sym c.is_of.ensures ∙ c.if-is_of.false)
