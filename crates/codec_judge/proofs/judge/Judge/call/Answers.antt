use Rattle.std.proofs.Common.{◌∙◌, ap, sym, refl}
use Rattle.codec_core.specs.Codec.{ReplyValue, box_stays, state_at}
use Rattle.codec_model.specs.declared.entry.Entry.{Entry}
use Rattle.codec_judge.proofs.Judging.{left_judges, not_called, was_out}
use Rattle.codec_judge.proofs.judge.Judge.call.Goals as goal

pub returns-then-not-may_call : goal.returns-then-not-may_call
returns-then-not-may_call g c = not_called c.args.lender.now c.args.self.now.core c.args.self.now.job c.args.who c.args.call.now c.requires (sym c.may_call.ensures ∙ c.if-not-may_call.true)

pub settle-requires-after_bounds : goal.settle-requires-after_bounds
settle-requires-after_bounds g c κs within =
    was_out c.args.lender.now c.args.self.now.core c.args.self.now.job (box_stays c.args.who c.args.call.now (state_at c.args.self.now.core)) c.reply.inside.coder c.requires
    (ap (λ (r : ReplyValue). r.coder) c.reply.view_is ∙ c.in_ok-reply.ensures.coder)

pub returns : goal.returns
returns g c =
    let old = c.args.self.now.core in
    let said = c.in_ok-reply.ensures in
    left_judges c.args.lender.now c.settle.new.self old c.ask.new.core (Entry.Call c.args.who c.args.call.now) c.args.self.now.job (box_stays c.args.who c.args.call.now (state_at old)) c.reply.inside.coder c.requires
    said.made said.running said.out said.slot (ap (λ (r : ReplyValue). r.coder) c.reply.view_is ∙ said.coder) c.in_ok-settle.ensures refl refl
