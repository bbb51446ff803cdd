use Rattle.std.proofs.Common.{◌≡◌, Some, sym}
use Rattle.codec_model.specs.Control.{turn_closes}
use Rattle.codec_live.specs.LiveLaws.{turn_goes}
use Rattle.codec_live.proofs.{Ready.ready_turned, live.LiveCore.turn.Given.Over}
use Rattle.codec_live.proofs.live.LiveCore.turn.Goals as goal

closes_is : (g : Over) (c : goal.After-hand_back-coder g) → turn_closes c.self.inside.machine.tasks ≡ Some c.closes-closes.result
closes_is g c = rw c.closes-closes.ensures (sym c.in_ok-answer.ensures.closes)

pub invariant_of-self-2 : goal.invariant_of-self-2
invariant_of-self-2 g c = ready_turned c.self.inside.slot _ c.self.inside.machine _ c.closes-closes.result c.self.invariant (closes_is g c) c.hand_back-coder.ensures.left c.turn.ensures.after

pub returns-clause-made : goal.returns-clause-made
returns-clause-made g c =
    rw (← c.self.view_is) (λ h stands. turn_goes stands c.closes-closes.result _ (closes_is g c) c.hand_back-coder.ensures.left c.turn.ensures.after c.in_ok-answer.ensures.answer.is_shown)
