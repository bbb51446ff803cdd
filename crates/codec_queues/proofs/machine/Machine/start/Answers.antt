use Rattle.std.proofs.Common.{rules, refl, ap, ◌∙◌}
use Rattle.codec_queues.specs.Queues.{QueuesValue}
use Rattle.codec_queues.proofs.Roomy.{roomy_started}
use Rattle.codec_queues.proofs.machine.Machine.start.Goals as goal

pub invariant_of-self-2 : goal.invariant_of-self-2
invariant_of-self-2 c = roomy_started c.in_ok-item.item _ c.epoch.result c.kind.result c.self.invariant refl (search rules) c.in_ok-item.ensures.some c.pop_item.ensures.rest (c.epoch.ensures ∙ ap (λ (q : QueuesValue). q.epoch) c.pop_item.ensures.rest) c.kind.ensures
