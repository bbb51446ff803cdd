use Rattle.std.proofs.Common.{◌∙◌}
use Rattle.serde_json.specs.Find.{as_i64}
use Rattle.json_data.proofs.LookupLaws.{number_read}
use Rattle.json_data.proofs.lookup.as_signed.Goals as goal

pub returns-in_err-as_number : goal.returns-in_err-as_number
returns-in_err-as_number c = c.from_residual.ensures ∙ number_read as_i64 _ c.args.value.now c.in_err-as_number.ensures

pub returns : goal.returns
returns c = c.signed_of.ensures ∙ number_read as_i64 _ c.args.value.now c.in_ok-as_number.ensures
