use Rattle.shared_codec.specs.Settles.{settles_rest}
use Rattle.shared_codec.proofs.Working.{call_settles}
use Rattle.shared_codec.proofs.codec.SharedCodec.call_once.Goals as goal

pub returns-in-Err-clause-settles : goal.returns-in-Err-clause-settles
returns-in-Err-clause-settles g c =
    settles_rest c.args.self.now c.args.seat.now.me.0 c.call.new.seat.me.0 c.args.slot_seat.now.me.0 c.args.pool_seat.now.me.0 c.in-Err.ensures.owes

pub returns-in-Ok-clause-settles : goal.returns-in-Ok-clause-settles
returns-in-Ok-clause-settles g c =
    call_settles c.args.self.now c.in-Ok.reply c.reply.inside.place c.reply.inside.exception c.reply.inside.promise c.reply.inside.media.items c.reply.inside.coder c.args.seat.now.me.0 c.call.new.seat.me.0 c.args.slot_seat.now.me.0 c.let_go.new.slot_seat.me.0 c.args.pool_seat.now.me.0 c.let_go.new.pool_seat.me.0
    c.reply.view_is c.in-Ok.ensures.owes c.let_go.ensures.given c.let_go.ensures.ended
