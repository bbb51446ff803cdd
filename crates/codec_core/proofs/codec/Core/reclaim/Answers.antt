use Rattle.wc_base.specs.declared.error.DomError.TheVariants.{QuotaExceeded}
use Rattle.std.proofs.Common.{true, refl, rules, arith, false}
use Rattle.codec_core.proofs.Steps.{reclaim_moves, makes_more, reclaim_reclaims}
use Rattle.codec_core.proofs.Recorded.{close_below, core_next, next_fits, ends_below}
use Rattle.codec_core.proofs.Owning.{at_home, keeps_running, back_removal}
use Rattle.codec_core.proofs.codec.Core.reclaim.Goals as goal

pub reclaim-requires : goal.reclaim-requires
reclaim-requires g c = next_fits c.self.invariant

pub push-requires-clause-ends : goal.push-requires-clause-ends
push-requires-clause-ends g c = ends_below c.never_stuck.ensures.facts c.self.invariant.kept _ _ c.in_ok-answer.ensures.answer.is_shown (close_below QuotaExceeded c.self.inside.machine)

pub invariant_of-self-2 : goal.invariant_of-self-2
invariant_of-self-2 g c =
    let m = reclaim_moves c.self.invariant.kept c.args.now c.in_ok-answer.ensures.may c.in_ok-answer.ensures.made in
    rw (c.push.ensures, c.hand_back-coder.ensures.left)
    (core_next c.self.invariant _ c.self.inside.spare _ m c.in_ok-answer.ensures.answer.is_shown refl
    (omega (arith, c.in_ok-answer.ensures.left, c.self.invariant.places, reclaim_reclaims c.self.inside.machine c.reclaim.new.self c.args.now c.in_ok-answer.ensures.may c.in_ok-answer.ensures.made), c.self.invariant.fits) false refl refl)

pub returns-clause-made : goal.returns-clause-made
returns-clause-made g c =
    rw (← c.self.view_is, c.push.ensures, c.hand_back-coder.ensures.left) (makes_more c.self.invariant.kept (reclaim_moves c.self.invariant.kept c.args.now c.in_ok-answer.ensures.may c.in_ok-answer.ensures.made) c.self.inside.spare c.self.inside.spare c.self.inside.out c.self.inside.out)

pub returns-clause-running : goal.returns-clause-running
returns-clause-running g c = keeps_running true (returns-clause-made g c) refl

pub returns-clause-lets : goal.returns-clause-lets
returns-clause-lets g c =
    back_removal c.args.self.now _ _ false _ _ (returns-clause-made g c) refl (at_home c.self.invariant c.self.view_is) (search rules)
    (rw (← c.self.view_is) c.hand_back-coder.ensures.taken)
