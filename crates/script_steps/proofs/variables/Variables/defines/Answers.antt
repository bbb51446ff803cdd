use Rattle.std.proofs.Common.{ap, ◌∙◌}
use Rattle.script_types.specs.Names.{is_variable_name}
use Rattle.script_steps.proofs.StepTables.{is_noted}
use Rattle.script_steps.proofs.variables.Variables.defines.Goals as goal

pub returns : goal.returns
returns c =
    c.contains_key.ensures ∙ is_noted c.self.inside.places c.self.inside.steps.items c.args.name.now c.self.invariant
    ∙ ap (λ steps. is_variable_name steps c.args.name.now) c.self.view_is
