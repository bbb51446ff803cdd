use Rattle.codec_live.specs.LiveLaws.{done_goes}
use Rattle.codec_live.proofs.live.LiveCore.done.Goals as goal

pub returns-clause-made : goal.returns-clause-made
returns-clause-made g c =
    rw (← c.self.view_is, ← c.d.view_is) (λ h stands end. done_goes stands _ c.args.moment end (rw (← c.epoch.ensures) c.hand_back-back.ensures.left) c.done.ensures.after)
