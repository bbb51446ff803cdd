use Rattle.std.proofs.Common.{◌≡◌, Option, IfOk, option_map, ap, ◌∙◌, sym, subst}
use Rattle.serde_json.specs.{Data.Data, Read.read}
use Rattle.json_data.specs.View.{view}
use Rattle.json_data.proofs.DataLaws.{value_of-text, value_of-no_text}
use Rattle.json_data.proofs.reader.read.Goals as goal

pub returns-in-Ok : goal.returns-in-Ok
returns-in-Ok c =
    let P : Option Data → Type 0 = λ d. IfOk c.read_text.result (λ o. option_map (λ v. view v) o ≡ d) in
    let text = c.in-Ok.ensures.cases in
    subst P (ap read text.0 ∙ sym (value_of-text c.args.bytes.now text.1)) c.read_text.ensures

pub returns-in-Err : goal.returns-in-Err
returns-in-Err c = value_of-no_text c.args.bytes.now c.in-Err.ensures.cases.0
