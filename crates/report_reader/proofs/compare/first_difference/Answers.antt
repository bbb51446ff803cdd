use Rattle.report_reader.proofs.DifferenceLaws.{difference_told}
use Rattle.report_reader.proofs.compare.first_difference.Goals as goal

pub returns : goal.returns
returns c = let told = difference_told c.difference.result c.args.a.now c.args.b.now c.difference.ensures in record { none = told.0; differs = told.1; line = told.2 }
