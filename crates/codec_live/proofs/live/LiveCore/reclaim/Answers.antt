use Rattle.codec_live.specs.LiveLaws.{reclaim_goes}
use Rattle.codec_live.proofs.Ready.{ready_none}
use Rattle.codec_live.proofs.live.LiveCore.reclaim.Goals as goal

pub invariant_of-self-2 : goal.invariant_of-self-2
invariant_of-self-2 g c = ready_none _ _ c.hand_back-coder.ensures.left

pub returns-clause-made : goal.returns-clause-made
returns-clause-made g c =
    rw (← c.self.view_is) (λ h stands. reclaim_goes stands c.args.now _ c.in_ok-answer.ensures.may c.hand_back-coder.ensures.left c.in_ok-answer.ensures.made c.in_ok-answer.ensures.answer.is_shown)
