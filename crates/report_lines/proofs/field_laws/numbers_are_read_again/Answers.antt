use Rattle.report_lines.proofs.FieldLaws.{number_again, short_again, signed_again, number_or_dash_again}
use Rattle.report_lines.proofs.field_laws.numbers_are_read_again.Goals as goal

pub returns : goal.returns
returns c = record { number = number_again; short = short_again; signed = signed_again; number_or_dash = number_or_dash_again }
