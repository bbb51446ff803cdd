use Rattle.std.proofs.Common.{false, refl, ap, ◌∙◌}
use Rattle.codec_core.specs.Codec.{RemovedValue}
use Rattle.codec_model.specs.declared.entry.Entry.{Entry}
use Rattle.codec_judge.proofs.Judging.{left_judges, not_reclaimed, was_out}
use Rattle.codec_judge.proofs.judge.Judge.reclaim.Goals as goal

pub returns-in_default : goal.returns-in_default
returns-in_default g c = rw c.in_default.ensures.same (not_reclaimed c.args.lender.now c.args.self.now.core c.args.self.now.job c.args.moment c.requires c.in_default.ensures.none)

pub settle-requires-after_bounds : goal.settle-requires-after_bounds
settle-requires-after_bounds g c κs within =
    was_out c.args.lender.now c.args.self.now.core c.args.self.now.job false c.removed.inside.coder c.requires
    (ap (λ (r : RemovedValue). r.coder) c.removed.view_is ∙ ap (λ (r : RemovedValue). r.coder) c.in-Some.ensures.removed)

pub returns : goal.returns
returns g c =
    let old = c.args.self.now.core in
    let said = c.in-Some.ensures in
    left_judges c.args.lender.now c.settle.new.self old c.reclaim.new.self (Entry.Reclaim c.args.moment) c.args.self.now.job false c.removed.inside.coder c.requires
    said.made said.running said.out said.slot (ap (λ (r : RemovedValue). r.coder) c.removed.view_is ∙ ap (λ (r : RemovedValue). r.coder) said.removed) c.in_ok-settle.ensures refl refl
