use Rattle.std.proofs.Common.{subst}
use Rattle.script_steps.proofs.PortTables.{AreNoted}
use Rattle.script_steps.proofs.ports.Ports.push.Goals as goal

pub invariant_of-self-in_err-note : goal.invariant_of-self-in_err-note
invariant_of-self-in_err-note c =
    subst (λ items. AreNoted c.note.new.places items) c.deref.ensures.value c.in_err-note.ensures.err
