use Rattle.report_lines.proofs.FieldFits.{upto_fits, number_fits, short_fits, signed_fits, number_or_dash_fits, bytes_fits}
use Rattle.report_lines.proofs.field_laws.fields_that_are_read_fit.Goals as goal

pub returns : goal.returns
returns c = record { upto = upto_fits; number = number_fits; short = short_fits; signed = signed_fits; number_or_dash = number_or_dash_fits; bytes = bytes_fits }
