use Rattle.std.proofs.Common.{◌∙◌, sym, subst}
use Rattle.wc_base.specs.declared.media.SoundShape.{SoundShape}
use Rattle.wc_audio.specs.Copies.{IsPlanOf}
use Rattle.wc_audio.proofs.Plans.{plan_fits}
use Rattle.wc_audio.proofs.data.AudioData.copy_to.Goals as goal

pub write-requires-clause-plan : goal.write-requires-clause-plan
write-requires-clause-plan c =
    let fits = plan_fits c.args.self.now c.args.o.now c.in_ok-p.p (sym c.plan.ensures ∙ c.in_ok-p.was) in
    subst (λ (s : SoundShape). IsPlanOf s c.in_ok-p.p) (sym c.shape-in-Some.ensures) fits
