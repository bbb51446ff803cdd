use Rattle.std.proofs.Common.{◌≡◌, Option, Some, None, option_map, ap, rules}
use Rattle.json.specs.Json as json
use Rattle.json.specs.Find as found
use Rattle.json.specs.{declared.value.Value.the_lemmas, Value.value_view, Value.items_view as json_items_view}
use Rattle.json_data.specs.View.{items_data}
use Rattle.json_data.proofs.LookupLaws.{as_array-view, items_data-json_items}
use Rattle.json_data.proofs.lookup.as_items.Goals as goal

pub returns-in-Array : goal.returns-in-Array
returns-in-Array c =
    let items = c.in-Array.items.items in
    let there : Some (json_items_view items) ≡ found.as_array (value_view c.args.value.now) = search (rules, the_lemmas) in
    cc (ap (option_map items_data) there, as_array-view c.args.value.now, items_data-json_items items)

pub returns-in_default : goal.returns-in_default
returns-in_default c =
    let other : ◌≡◌ {A = Option json.Items} None (found.as_array (value_view c.args.value.now)) = search (rules, the_lemmas, c.in_default.not-Array) in
    cc (ap (option_map items_data) other, as_array-view c.args.value.now)
