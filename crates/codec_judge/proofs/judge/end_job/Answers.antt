use Rattle.std.proofs.Common.{◌∙◌, ap}
use Rattle.std.proofs.lemmas.Result.{on_ok_weaker}
use Rattle.codec_core.specs.Codec.{BackValue}
use Rattle.codec_judge.specs.Lender.{LenderValue}
use Rattle.codec_judge.proofs.Judging.{settled_home}
use Rattle.codec_judge.proofs.Ending.{ended_was_out, ended_out}
use Rattle.codec_judge.proofs.judge.end_job.Goals as goal

pub settle-requires-after_bounds : goal.settle-requires-after_bounds
settle-requires-after_bounds g c κs within =
    ended_was_out _ c.args.done.coder c.back.inside.coder c.args.lender.now c.requires.out (ap (λ (b : BackValue). b.coder) c.back.view_is ∙ c.done-back.ensures.back)

pub returns-clause-out : goal.returns-clause-out
returns-clause-out g c =
    on_ok_weaker c.settle.result
    (λ gave. ended_out _ c.args.done.coder c.back.inside.coder c.done-back.new.self.slot c.args.lender.now c.settle.new.self c.requires.out (ap (λ (b : BackValue). b.coder) c.back.view_is ∙ c.done-back.ensures.back) c.done-back.ensures.slot gave)
    c.settle.ensures

pub returns-clause-home : goal.returns-clause-home
returns-clause-home g c = on_ok_weaker c.settle.result (λ gave. ap (λ (l : LenderValue). l.home) gave ∙ settled_home c.back.inside.coder c.args.lender.now) c.settle.ensures
