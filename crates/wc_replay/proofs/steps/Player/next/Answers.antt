use Rattle.std.proofs.Common.{ℕ, ◌<◌, List, ap, sym, subst, ◌∙◌}
use Rattle.std.specs.Prelude.{slice_get}
use Rattle.script_types.specs.declared.steps.Step.{Step}
use Rattle.wc_replay.proofs.Playable.{caller_within}
use Rattle.wc_replay.proofs.steps.Player.next.Goals as goal

pub step-requires-clause-caller : goal.step-requires-clause-caller
step-requires-clause-caller g c κs within =
    let number = c.made_by-number.result in
    let stands = ap (λ (l : List Step). slice_get l number) (sym c.steps_of-steps.ensures) ∙ sym c.in-Some.ensures in
    subst (λ (n : ℕ). c.args.caller < n) (sym c.requires.callers) (caller_within c.args.script.now c.args.caller number c.in-Some.step.now stands)
