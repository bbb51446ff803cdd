use Rattle.std.proofs.Common.{◌∙◌, ap, sym}
use Rattle.codec_model.specs.{Shown.promise_state, Shown.ends_shown, ShownLaws.ends_each}
use Rattle.codec_core.proofs.codec.Core.end_of.Goals as goal

pub returns : goal.returns
returns g c =
    let is = c.self.invariant in
    rw (← c.self.view_is) (c.end_of.ensures ∙ (ap (λ xs. promise_state (ends_shown xs) c.args.promise) is.shows ∙ ap (λ es. promise_state es c.args.promise) (sym (ends_each c.self.inside.machine.opening c.self.inside.trace.entries))))
