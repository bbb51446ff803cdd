use Rattle.report_reader.proofs.{RunLaws.run_again, ReadLaws.report_tells}
use Rattle.report_reader.proofs.laws.reports_determine_runs.Goals as goal

pub returns : goal.returns
returns c = record { again = run_again; determine = report_tells c.lines_are_read_again.ensures.again }
