use Rattle.std.proofs.Common.{arith, ◌+◌, bit_xor}
use Rattle.std.proofs.lemmas.Grind.{common_steps}
use Rattle.std.proofs.lemmas.Nat.{xor_lt}
use Rattle.g711.proofs.AlawCodes.{alaw_encodes_once}
use Rattle.g711.proofs.alaw.alaw_encode.Goals as goal

pub returns-then-value-lt0-clause-code : goal.returns-then-value-lt0-clause-code
returns-then-value-lt0-clause-code c = alaw_encodes_once c.args.value (bit_xor c.interval_of-bits.result 0x55) (grind (arith, common_steps))

pub returns-else-value-lt0-clause-code : goal.returns-else-value-lt0-clause-code
returns-else-value-lt0-clause-code c = alaw_encodes_once c.args.value (bit_xor (c.interval_of-bits.result + 128) 0x55) (record { byte = search (arith, xor_lt 8); sign = grind (arith, common_steps); interval = grind (arith, common_steps) })
