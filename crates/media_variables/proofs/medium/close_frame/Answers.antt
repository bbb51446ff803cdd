use Rattle.std.proofs.Common.{◌≡◌}
use Rattle.std.specs.Prelude.{is_some}
use Rattle.media_variables.proofs.Made.{frame_closed}
use Rattle.media_variables.proofs.medium.close_frame.Goals as goal

pub returns-clause-does : goal.returns-clause-does
returns-clause-does g c =
    let now = c.close_frame.new.pool in
    frame_closed (g.P.RefPool.adds c.args.pool.now now) (now ≡ c.args.pool.now) c.args.who c.args.frame.now.held (is_some c.close_frame.result) c.close_frame.ensures.closes
