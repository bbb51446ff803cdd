use Rattle.std.proofs.Common.{arith}
use Rattle.report_lines.proofs.WordLaws.{after_strips}
use Rattle.report_lines.proofs.words.after.Goals as goal

pub returns : goal.returns
returns c = grind (arith, after_strips c.args.prefix.now c.args.bytes.now)
