use Rattle.std.proofs.Common.{sym, arith}
use Rattle.std.proofs.lemmas.List.{take_all}
use Rattle.wcrun.proofs.probe.description.Goals as goal

pub returns-then-bytes-lt42 : goal.returns-then-bytes-lt42
returns-then-bytes-lt42 c = sym (take_all 42 c.args.bytes.now (omega (arith, c.if-bytes-lt42.true)))
