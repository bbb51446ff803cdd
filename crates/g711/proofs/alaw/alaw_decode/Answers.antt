use Rattle.std.proofs.Common.{arith, rules}
use Rattle.codec_definitions.specs.G711.{alaw_value}
use Rattle.g711.proofs.TableLaws.{looked_up}
use Rattle.g711.proofs.alaw.alaw_decode.Goals as goal

pub returns : goal.returns
returns c = looked_up alaw_value c.values.result.now c.args.code (omega arith) (search rules) c.values.ensures
