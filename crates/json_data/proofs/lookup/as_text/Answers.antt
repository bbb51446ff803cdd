use Rattle.std.proofs.Common.{◌∙◌, sym}
use Rattle.json.specs.Value.{value_view}
use Rattle.json_data.specs.View.{view}
use Rattle.json_data.proofs.LookupLaws.{as_str-data}
use Rattle.json_data.proofs.lookup.as_text.Goals as goal

pub returns : goal.returns
unfolding view
returns c = c.as_str.ensures ∙ sym (as_str-data (value_view c.args.value.now))
