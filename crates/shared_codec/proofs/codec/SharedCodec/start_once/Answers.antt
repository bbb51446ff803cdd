use Rattle.shared_codec.proofs.Working.{start_settles}
use Rattle.shared_codec.proofs.codec.SharedCodec.start_once.Goals as goal

pub returns-clause-settles : goal.returns-clause-settles
returns-clause-settles g c p =
    start_settles c.args.self.now c.in-Some.job c.args.seat.now.me.0 c.start.new.seat.me.0 c.args.slot_seat.now.me.0 c.give_old.new.slot_seat.me.0 p c.in-Some.ensures.owes c.give_old.ensures.made
