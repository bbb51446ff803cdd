use Rattle.std.proofs.Common.{◌≡◌, ◌∙◌, ap, Some, slice_get, is_some}
use Rattle.codec_model.specs.Shown.{shown, outputs_of}
use Rattle.codec_core.proofs.Recorded.{next_is, some_waits}
use Rattle.codec_core.proofs.Owning.{control_at}
use Rattle.codec_core.proofs.Replies.{some_mapped, if_mapped}
use Rattle.codec_core.proofs.codec.Core.next_output.Goals as goal

pub returns-clause-may : goal.returns-clause-may
returns-clause-may g c =
    let i = c.self.inside in
    rw (control_at c.self.invariant c.self.view_is) (some_mapped (λ u. u.now) c.next_output.result ∙ (ap is_some c.next_output.ensures ∙ some_waits i.trace.shown i.trace.waiting i.machine c.self.invariant.outputs))

pub returns-clause-unit : goal.returns-clause-unit
returns-clause-unit g c =
    let i = c.self.inside in
    rw (control_at c.self.invariant c.self.view_is, ← c.self.view_is) (if_mapped (λ u. u.now) (λ u. slice_get (outputs_of (shown i.machine.opening i.trace.entries)) i.machine.taken ≡ Some u) c.next_output.result _ c.next_output.ensures (next_is c.self.invariant))
