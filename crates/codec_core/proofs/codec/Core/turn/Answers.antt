use Rattle.std.proofs.Common.{◌≡◌, Some, refl, sym, rules, arith, not}
use Rattle.codec_model.specs.Control.{turn_closes}
use Rattle.codec_core.proofs.Steps.{turn_moves, makes_more, place_kept}
use Rattle.codec_core.proofs.Recorded.{turn_below, core_next, next_fits, ends_below}
use Rattle.codec_core.proofs.Owning.{at_home, control_at, turn_act, keeps_running, back_turn}
use Rattle.codec_core.proofs.codec.Core.turn.Given.{Over}
use Rattle.codec_core.proofs.codec.Core.turn.Goals as goal

pub turn-requires : goal.turn-requires
turn-requires g c = next_fits c.self.invariant

pub push-requires-clause-ends : goal.push-requires-clause-ends
push-requires-clause-ends g c = ends_below c.never_stuck.ensures.facts c.self.invariant.kept _ _ c.in_ok-answer.ensures.answer.is_shown (turn_below c.self.inside.machine.tasks c.self.inside.machine refl)

closes_is : (g : Over) (c : goal.After-push g) → turn_closes c.self.inside.machine.tasks ≡ Some c.closes-closes.result
closes_is g c = rw c.closes-closes.ensures (sym c.in_ok-answer.ensures.closes)

pub invariant_of-self-2 : goal.invariant_of-self-2
invariant_of-self-2 g c =
    let kept = c.self.invariant.kept in
    let act = turn_act kept.state c.closes-closes.result (rw kept.is_control (closes_is g c)) in
    let m = turn_moves kept _ (closes_is g c) c.hand_back-coder.ensures.left c.turn.ensures.after in
    rw c.push.ensures
    (core_next c.self.invariant _ c.self.inside.spare _ m c.in_ok-answer.ensures.answer.is_shown refl
    (omega (arith, c.in_ok-answer.ensures.left, c.self.invariant.places, place_kept kept m), c.self.invariant.fits) (not c.closes-closes.result) act c.hand_back-coder.ensures.left)

pub returns-clause-some : goal.returns-clause-some
returns-clause-some g c = rw (← c.self.view_is, c.push.ensures) (makes_more c.self.invariant.kept (turn_moves c.self.invariant.kept _ (closes_is g c) c.hand_back-coder.ensures.left c.turn.ensures.after) c.self.inside.spare c.self.inside.spare c.self.inside.out c.self.inside.out)

pub returns-clause-running : goal.returns-clause-running
returns-clause-running g c = keeps_running _ (returns-clause-some g c) refl

pub returns-clause-lets : goal.returns-clause-lets
returns-clause-lets g c =
    back_turn c.args.self.now _ c.closes-closes.result c.in_ok-answer.answer.place c.hand_back-coder.result _ (returns-clause-some g c) (rw (control_at c.self.invariant c.self.view_is) (closes_is g c)) (at_home c.self.invariant c.self.view_is) (search rules)
    (rw (← c.self.view_is) c.hand_back-coder.ensures.taken) c.removed_if-removed.ensures
