use Rattle.std.proofs.Common.{rules, inl}
use Rattle.seat_lock.proofs.Ends.{settles_union, phase_of_union}
use Rattle.seat_lock.proofs.Seats.{joins, settles}
use Rattle.seat_lock.proofs.lock.SeatLock.join.Goals as goal

pub join_seat-requires : goal.join_seat-requires
join_seat-requires g c = (search rules, search rules, search rules, search rules, joins _ _ _ _ _ _ _ _ _ c.requires.seat.1.0 (inl c.requires.other.1.0))

pub load-requires : goal.load-requires
load-requires g c = (search rules, search rules, settles _ _ _ _ _ _ _ c.args.seat.now.me.0.numbers c.args.other.me.0.numbers c.args.seat.now.me.0.log c.args.other.me.0.log _ (phase_of_union c.args.seat.now.me.0 c.args.other.me.0 _ _ c.join_seat.ensures.2))

pub returns : goal.returns
returns g c = (search rules, settles_union c.args.seat.now c.args.other.me.0 c.join_seat.new.seat.me c.load.new.seat c.requires.seat.1.1 c.join_seat.ensures.2 c.load.ensures.2)
