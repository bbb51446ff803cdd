use Rattle.media_variables.proofs.Made.{buffer_made}
use Rattle.media_variables.proofs.medium.make_buffer.Goals as goal

pub returns-clause-ok : goal.returns-clause-ok
returns-clause-ok g c = buffer_made _ _ c.args.who c.args.content.now c.in_ok-buffer.buffer c.gives.result c.gives.ensures c.in_ok-buffer.ensures.ok
