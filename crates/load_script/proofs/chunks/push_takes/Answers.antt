use Rattle.std.proofs.Common.{◌+◌, ◌++◌, ◌∷◌, [], ◌∙◌, ℕ, List, refl, ap}
use Rattle.script_types.specs.declared.steps.MediaStep.TheVariants as media
use Rattle.script_types.specs.declared.steps.Step.TheVariants as step
use Rattle.script_types.specs.declared.steps.VariableKind.TheVariants as holds
use Rattle.load_script.specs.Script.{takes}
use Rattle.load_script.proofs.Loops.{take_next}
use Rattle.load_script.proofs.chunks.push_takes.Goals as goal

pub loop-n-preserved : goal.loop-n-preserved
loop-n-preserved c =
    take_next c.args.on c.args.count c.loop-n.n c.args.first (takes c.args.on (c.args.first + c.loop-n.n)) c.loop-n.steps.items c.try_push.new.items.items _ c.loop-n-test.true refl
    (c.in_ok-try_push.ensures.ok ∙ ap (λ (name : List ℕ). c.loop-n.steps.items ++ step.Media (media.Take c.args.on name holds.Audio) ∷ []) c.in_ok-name_of.ensures) c.loop-n.invariant
