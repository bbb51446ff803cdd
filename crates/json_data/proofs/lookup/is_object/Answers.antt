use Rattle.std.proofs.Common.{rules}
use Rattle.json.specs.{declared.value.Value.the_lemmas}
use Rattle.json_data.proofs.LookupLaws.{as_object-view}
use Rattle.json_data.proofs.lookup.is_object.Goals as goal

pub returns-in-Object : goal.returns-in-Object
returns-in-Object c = rw (as_object-view c.args.value.now) (search (rules, the_lemmas))

pub returns-in_default : goal.returns-in_default
returns-in_default c = rw (as_object-view c.args.value.now) (search (rules, the_lemmas, c.in_default.not-Object))
