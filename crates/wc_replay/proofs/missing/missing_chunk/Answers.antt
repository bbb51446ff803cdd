use Rattle.std.proofs.Common.{◌≡◌, ap, subst, ◌∙◌, Some, List}
use Rattle.std.specs.Prelude.{slice_get}
use Rattle.script_types.specs.{declared.script.CallerItem.CallerItem, declared.script.ScriptData.ScriptData, SoundLaws.few_steps}
use Rattle.wc_replay.proofs.missing.missing_chunk.Goals as goal

pub missing_caller-requires-clause-steps : goal.missing_caller-requires-clause-steps
missing_caller-requires-clause-steps c i x is =
    few_steps c.args.script.now i x c.data.ensures.sound
    (subst (λ (l : List CallerItem). slice_get l i ≡ Some x) (c.as_slice.ensures ∙ ap (λ (d : ScriptData). d.callers) c.data.ensures.data) is)
