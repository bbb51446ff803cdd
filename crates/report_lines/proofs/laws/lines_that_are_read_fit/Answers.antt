use Rattle.report_lines.proofs.ReadLaws.{line_fits}
use Rattle.report_lines.proofs.laws.lines_that_are_read_fit.Goals as goal

pub returns : goal.returns
returns c = line_fits
