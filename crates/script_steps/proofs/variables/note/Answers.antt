use Rattle.std.proofs.Common.{rules}
use Rattle.script_steps.proofs.StepTables.{step_put, step_old}
use Rattle.script_steps.proofs.variables.note.Goals as goal

pub returns-in-Some-place_of-clause-ok : goal.returns-in-Some-place_of-clause-ok
returns-in-Some-place_of-clause-ok c =
    step_old c.args.steps.now c.args.step.now c.args.places.now c.in-Some.name.now c.in-Some.field-0-1 c.in-Some-place_of.field-0 c.requires (search rules) (search rules)

pub returns-in-None-place_of-clause-ok : goal.returns-in-None-place_of-clause-ok
returns-in-None-place_of-clause-ok c =
    search (rules, step_put c.args.steps.now c.args.step.now c.args.places.now c.put.new.places c.in-Some.name.now c.in-Some.field-0-1 c.requires (search rules) (search rules))
