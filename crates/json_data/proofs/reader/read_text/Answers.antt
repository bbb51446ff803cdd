use Rattle.std.proofs.Common.{◌≡◌, true, is_some, option_map, ap, ◌∙◌, sym, arith}
use Rattle.json.specs.Value.{value_view}
use Rattle.serde_json.specs.Read.{of_json}
use Rattle.json_data.proofs.DataLaws.{view-read}
use Rattle.json_data.proofs.reader.read_text.Goals as goal

pub returns-in-Some : goal.returns-in-Some
returns-in-Some c =
    let taken : is_some (of_json (value_view c.in-Some.value)) ≡ true = grind arith in
    view-read c.in-Some.value _ (ap (option_map value_view) (sym c.in-Some.is) ∙ c.in_ok-value.ensures) taken
