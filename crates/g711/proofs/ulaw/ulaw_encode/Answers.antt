use Rattle.std.proofs.Common.{rules, ◌-◌}
use Rattle.g711.proofs.UlawCodes.{ulaw_encodes_once}
use Rattle.g711.proofs.ulaw.ulaw_encode.Goals as goal

pub returns-then-value-lt0-clause-code : goal.returns-then-value-lt0-clause-code
returns-then-value-lt0-clause-code c = ulaw_encodes_once c.args.value (127 - c.segment_of-bits.result) (search rules)

pub returns-else-value-lt0-clause-code : goal.returns-else-value-lt0-clause-code
returns-else-value-lt0-clause-code c = ulaw_encodes_once c.args.value (255 - c.segment_of-bits.result) (search rules)
