use Rattle.codec_definitions.specs.declared.command.Command.{Command}
use Rattle.codec_live.proofs.Ends.{taken}
use Rattle.codec_live.proofs.work.push_end.Goals as goal

pub returns : goal.returns
returns g c = rw c.end_of.ensures (taken c.args.coder.now c.push-answer.new.self (Command.Chunk c.args.chunk.now) c.push-answer.result c.push-answer.new.out.items c.push-answer.ensures.same (rw c.new-units.ensures.items at c.push-answer.ensures.takes))
