use Rattle.codec_definitions.specs.declared.command.Command.{Command}
use Rattle.codec_live.proofs.Ends.{taken}
use Rattle.codec_live.proofs.work.sound_end.Goals as goal

pub returns : goal.returns
returns g c = rw c.end_of.ensures (taken c.args.coder.now c.push-answer.new.self (Command.Sound (record { shape = c.args.shape.now; bytes = c.args.bytes.now })) c.push-answer.result c.push-answer.new.out.items c.push-answer.ensures.same (rw (c.new-units.ensures.items, c.as_slice.ensures) at c.push-answer.ensures.takes))
