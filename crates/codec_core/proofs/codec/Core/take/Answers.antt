use Rattle.std.proofs.Common.{◌≡◌, ◌-◌, true, refl, ap, arith}
use Rattle.codec_model.specs.Control.{may_take}
use Rattle.codec_core.specs.Codec.{Codec}
use Rattle.codec_core.proofs.Steps.{take_moves, place_kept}
use Rattle.codec_core.proofs.Recorded.{core_taken}
use Rattle.codec_core.proofs.Owning.{control_at, keeps_called}
use Rattle.codec_core.proofs.Replies.{replied}
use Rattle.codec_core.proofs.codec.Core.take.Given.{Over}
use Rattle.codec_core.proofs.codec.Core.take.Goals as goal

may : (g : Over) (c : goal.After-push g) → may_take c.args.unit c.self.inside.machine ≡ true
may g c = rw (control_at c.self.invariant c.self.view_is) at c.requires.may

pub invariant_of-self : goal.invariant_of-self
invariant_of-self g c =
    let m = take_moves c.self.invariant.kept c.args.who c.args.unit (may g c) c.in-Ok.ensures.ok in
    rw (c.push.ensures, c.pass_output.ensures, c.in-Ok.ensures.answer.is_shown)
    (core_taken c.self.invariant _ (c.self.inside.spare - 1) c.args.who c.args.unit (may g c) c.in-Ok.ensures.ok m
    (omega (arith, c.in-Ok.ensures.kept refl, c.requires.spare, ap (λ (v : Codec). v.spare) c.self.view_is, c.self.invariant.places, place_kept c.self.invariant.kept m)) c.self.invariant.fits)

pub returns-clause-replied : goal.returns-clause-replied
returns-clause-replied g c =
    let m = take_moves c.self.invariant.kept c.args.who c.args.unit (may g c) c.in-Ok.ensures.ok in
    rw (← c.self.view_is, c.push.ensures, c.pass_output.ensures)
    (replied c.self.invariant c.args.who _ m (c.self.inside.spare - 1) refl _ _ _ _ c.in-Ok.ensures.answer.is_place refl refl refl (omega (arith, c.requires.spare, ap (λ (v : Codec). v.spare) c.self.view_is)))

pub returns-clause-running : goal.returns-clause-running
returns-clause-running g c = keeps_called (returns-clause-replied g c).made
