use Rattle.shared_codec.specs.Settles.{settles_rest}
use Rattle.shared_codec.proofs.Working.{reclaim_settles}
use Rattle.shared_codec.proofs.codec.SharedCodec.reclaim_once.Goals as goal

pub returns-in_default-clause-settles : goal.returns-in_default-clause-settles
returns-in_default-clause-settles g c =
    settles_rest c.args.self.now c.args.seat.now.me.0 c.reclaim.new.seat.me.0 c.args.slot_seat.now.me.0 c.args.pool_seat.now.me.0 c.in_default.ensures.owes

pub returns-clause-settles : goal.returns-clause-settles
returns-clause-settles g c =
    reclaim_settles c.args.self.now c.in-Some.gone c.gone.inside.place c.gone.inside.media.items c.gone.inside.coder c.args.seat.now.me.0 c.reclaim.new.seat.me.0 c.args.slot_seat.now.me.0 c.let_go.new.slot_seat.me.0 c.args.pool_seat.now.me.0 c.let_go.new.pool_seat.me.0
    c.gone.view_is c.in-Some.ensures.owes c.let_go.ensures.given c.let_go.ensures.ended
