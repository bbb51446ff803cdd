use Rattle.std.proofs.Common.{◌≡◌}
use Rattle.std.specs.Prelude.{is_some}
use Rattle.media_variables.proofs.Made.{buffer_closed}
use Rattle.media_variables.proofs.medium.close_buffer.Goals as goal

pub returns-clause-does : goal.returns-clause-does
returns-clause-does g c =
    let now = c.close_buffer.new.pool in
    buffer_closed (g.P.RefPool.adds c.args.pool.now now) (now ≡ c.args.pool.now) c.args.who c.args.buffer.now (is_some c.close_buffer.result) c.close_buffer.ensures.closes
