use Rattle.report_check.proofs.PartLaws.{differs_first, same_last}
use Rattle.report_check.proofs.part.first_line.Goals as goal

pub returns-in-Some : goal.returns-in-Some
returns-in-Some c = differs_first c.args.text.now c.args.bytes.now c.in-Some.line c.in-Some.ensures.differs c.in-Some.ensures.line

pub returns-in-None : goal.returns-in-None
returns-in-None c = same_last c.args.text.now c.args.bytes.now c.ended_lines.result c.in-None.ensures.none c.ended_lines.ensures
