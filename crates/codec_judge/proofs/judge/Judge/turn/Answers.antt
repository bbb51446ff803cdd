use Rattle.std.proofs.Common.{not, refl}
use Rattle.codec_core.specs.Codec.{closes_now, state_at}
use Rattle.codec_model.specs.declared.entry.Entry.{Entry}
use Rattle.codec_judge.proofs.Judging.{left_judges, not_turned, was_out}
use Rattle.codec_judge.proofs.judge.Judge.turn.Goals as goal

pub returns-in_default : goal.returns-in_default
returns-in_default g c = rw c.in_default.ensures.same (not_turned c.args.lender.now c.args.self.now.core c.args.self.now.job c.requires c.in_default.ensures.none)

pub settle-requires-after_bounds : goal.settle-requires-after_bounds
settle-requires-after_bounds g c κs within =
    was_out c.args.lender.now c.args.self.now.core c.args.self.now.job (not (closes_now (state_at c.args.self.now.core).control)) c.in-Some.back c.requires c.in-Some.ensures.back

pub returns : goal.returns
returns g c =
    let old = c.args.self.now.core in
    let said = c.in-Some.ensures in
    left_judges c.args.lender.now c.settle.new.self old c.run_task.new.core Entry.Turn c.args.self.now.job (not (closes_now (state_at old).control)) c.in-Some.back c.requires
    said.made said.running said.out said.slot said.back c.in_ok-settle.ensures refl refl
