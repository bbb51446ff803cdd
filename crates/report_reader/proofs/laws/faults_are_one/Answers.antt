use Rattle.report_reader.proofs.ReadLaws.{fault_is_one}
use Rattle.report_reader.proofs.laws.faults_are_one.Goals as goal

pub returns : goal.returns
returns c = fault_is_one
