use Rattle.report_lines.proofs.FieldLaws.{bytes_again}
use Rattle.report_lines.proofs.field_laws.bytes_are_read_again.Goals as goal

pub returns : goal.returns
returns c = bytes_again
