use Rattle.std.proofs.Common.{Ok}
use Rattle.codec_definitions.specs.declared.command.Command.{Command}
use Rattle.codec_live.proofs.Ends.{taken}
use Rattle.codec_live.proofs.work.drain_end.Goals as goal

pub returns-in-Ok : goal.returns-in-Ok
returns-in-Ok g c = rw c.of.ensures (taken c.args.coder.now c.drain.new.self Command.Drain (Ok c.in-Ok.field-0) c.drain.new.out.items c.drain.ensures.same (rw (c.new-units.ensures.items, c.in-Ok.is) at c.drain.ensures.drains))
