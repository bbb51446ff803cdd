use Rattle.report_reader.proofs.PlaceLaws.{from_own}
use Rattle.report_reader.proofs.clones.source_of.Goals as goal

pub returns-in-Own-clause-none : goal.returns-in-Own-clause-none
returns-in-Own-clause-none c = from_own c.args.script.now c.args.known.now c.args.at c.args.step.now c.in-Own.ensures
