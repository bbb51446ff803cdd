use Rattle.std.proofs.Common.{sym}
use Rattle.shared_codec.specs.Settles.{settles_rest}
use Rattle.shared_codec.proofs.Working.{turn_settles, close_settles}
use Rattle.shared_codec.proofs.codec.SharedCodec.turn_once.Goals as goal

pub returns-in_default-clause-settles : goal.returns-in_default-clause-settles
returns-in_default-clause-settles g c =
    settles_rest c.args.self.now c.args.seat.now.me.0 c.turn.new.seat.me.0 c.args.slot_seat.now.me.0 c.args.pool_seat.now.me.0 c.in_default.ensures.owes

pub returns-in-None-clause-settles : goal.returns-in-None-clause-settles
returns-in-None-clause-settles g c =
    turn_settles c.args.self.now c.in-Some.turned c.parts_of-place.result.0 c.parts_of-place.result.1 c.args.seat.now.me.0 c.turn.new.seat.me.0 c.args.slot_seat.now.me.0 c.args.pool_seat.now.me.0 (sym c.parts_of-place.ensures) c.in-None.is c.in-Some.ensures.owes

pub returns-in-Some-removed-clause-settles : goal.returns-in-Some-removed-clause-settles
returns-in-Some-removed-clause-settles g c =
    close_settles c.args.self.now c.in-Some.turned c.parts_of-place.result.0 c.gone.inside.place c.parts_of-place.result.1 c.in-Some-removed.gone c.gone.inside.media.items c.gone.inside.coder c.args.seat.now.me.0 c.turn.new.seat.me.0 c.args.slot_seat.now.me.0 c.let_go.new.slot_seat.me.0 c.args.pool_seat.now.me.0 c.let_go.new.pool_seat.me.0
    (sym c.parts_of-place.ensures) c.in-Some-removed.is c.gone.view_is c.in-Some.ensures.owes c.let_go.ensures.given c.let_go.ensures.ended
