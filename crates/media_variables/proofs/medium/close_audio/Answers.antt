use Rattle.std.proofs.Common.{◌≡◌}
use Rattle.std.specs.Prelude.{is_some}
use Rattle.media_variables.proofs.Made.{sound_closed}
use Rattle.media_variables.proofs.medium.close_audio.Goals as goal

pub returns-clause-does : goal.returns-clause-does
returns-clause-does g c =
    let now = c.close_data.new.pool in
    sound_closed (g.P.RefPool.adds c.args.pool.now now) (now ≡ c.args.pool.now) c.args.who c.args.audio.now.held (is_some c.close_data.result) c.close_data.ensures.closes
