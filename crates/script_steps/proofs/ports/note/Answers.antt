use Rattle.std.proofs.Common.{rules}
use Rattle.script_steps.proofs.PortTables.{port_put, port_old}
use Rattle.script_steps.proofs.ports.note.Goals as goal

pub returns-in-Some-place_of-clause-ok : goal.returns-in-Some-place_of-clause-ok
returns-in-Some-place_of-clause-ok c =
    port_old c.args.items.now c.args.item.now c.in-Some.port c.args.places.now c.as_str-name.result.now c.in-Some-place_of.field-0 c.requires (search rules) (search rules) (search rules)

pub returns-in-None-place_of-clause-ok : goal.returns-in-None-place_of-clause-ok
returns-in-None-place_of-clause-ok c =
    search (rules, port_put c.args.items.now c.args.item.now c.in-Some.port c.args.places.now c.put.new.places c.as_str-name.result.now c.requires (search rules) (search rules) (search rules))
