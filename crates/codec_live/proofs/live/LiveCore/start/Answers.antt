use Rattle.std.proofs.Common.{◌≡◌, ◌∙◌, Some, sym}
use Rattle.codec_model.specs.Control.{start_item}
use Rattle.codec_live.specs.LiveLaws.{start_goes, start_job, start_lacks}
use Rattle.codec_live.proofs.{Ready.ready_none, Ready.begun_at_work, Ready.begun_next, live.LiveCore.start.Given.Over}
use Rattle.codec_live.proofs.live.LiveCore.start.Goals as goal

item_is : (g : Over) (c : goal.After-replace-coder g) → start_item c.self.inside.machine ≡ Some c.in_ok-item.item
item_is g c = sym c.start.ensures.item ∙ c.in_ok-item.was

pub invariant_of-self-2 : goal.invariant_of-self-2
invariant_of-self-2 g c = ready_none _ _ c.replace-coder.ensures.after

pub returns-clause-made : goal.returns-clause-made
returns-clause-made g c =
    rw (← c.self.view_is, c.epoch-epoch.ensures) (λ h stands. start_goes stands c.in_ok-item.item (item_is g c) c.replace-coder.ensures.after c.start.ensures.after)

pub returns-clause-job : goal.returns-clause-job
returns-clause-job g c =
    rw (← c.self.view_is, c.epoch-epoch.ensures, c.replace-coder.ensures.value)
    (λ h stands. start_job stands c.in_ok-item.item _ (item_is g c) c.replace-coder.ensures.after c.start.ensures.after)

pub returns-clause-lacks : goal.returns-clause-lacks
returns-clause-lacks g c =
    rw (← c.self.view_is, c.replace-coder.ensures.value) (λ h stands. start_lacks stands c.in_ok-item.item (item_is g c))

pub returns-clause-next : goal.returns-clause-next
returns-clause-next g c = rw (← c.self.view_is) (begun_next c.self.inside.machine _ c.in_ok-item.item (item_is g c) c.start.ensures.after)

pub returns-clause-work : goal.returns-clause-work
returns-clause-work g c = rw c.epoch-epoch.ensures (begun_at_work c.self.inside.machine _ c.in_ok-item.item (item_is g c) c.start.ensures.after)
