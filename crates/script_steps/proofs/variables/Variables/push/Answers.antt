use Rattle.std.proofs.Common.{subst}
use Rattle.script_steps.proofs.StepTables.{IsNoted}
use Rattle.script_steps.proofs.variables.Variables.push.Goals as goal

pub invariant_of-self-in_err-note : goal.invariant_of-self-in_err-note
invariant_of-self-in_err-note c =
    subst (λ steps. IsNoted c.note.new.places steps) c.deref.ensures.value c.in_err-note.ensures.err
