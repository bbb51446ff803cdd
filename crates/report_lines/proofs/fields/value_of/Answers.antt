use Rattle.std.proofs.Common.{◌∙◌}
use Rattle.report_lines.proofs.FieldLaws.{value_parsed, utf8_digits}
use Rattle.report_lines.proofs.fields.value_of.Goals as goal

pub returns-in-Ok : goal.returns-in-Ok
returns-in-Ok c = c.ok.ensures.value ∙ value_parsed c.parse.result c.args.digits.now c.requires (rw (c.in-Ok.ensures).cases.0 at c.parse.ensures.value.0)

pub returns-in-Err : goal.returns-in-Err
returns-in-Err c = absurd ((c.in-Err.ensures).cases.0 (utf8_digits _ c.requires))
