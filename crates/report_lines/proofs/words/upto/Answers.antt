use Rattle.std.proofs.Common.{arith}
use Rattle.std.proofs.lemmas.Grind.{common_steps}
use Rattle.report_lines.proofs.WordLaws.{upto_at_place}
use Rattle.report_lines.proofs.words.upto.Goals as goal

pub returns-in-None : goal.returns-in-None
returns-in-None c = grind (arith, common_steps, upto_at_place c.args.mark c.args.bytes.now)

pub returns-in-Some : goal.returns-in-Some
returns-in-Some c = grind (arith, common_steps, upto_at_place c.args.mark c.args.bytes.now)
