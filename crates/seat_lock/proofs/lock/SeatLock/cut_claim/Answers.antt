use Rattle.std.proofs.Common.{rules, ℕ, sym, subst}
use Rattle.seat_lock.proofs.Seats.{cuts}
use Rattle.seat_lock.proofs.lock.SeatLock.cut_claim.Goals as goal
use Rattle.seat_lock.specs.Logs.{Has}

pub split_seat-requires : goal.split_seat-requires
split_seat-requires g c = (search rules, search rules, cuts _ _ _ _ _ _ _ _ c.requires.seat.1.0 (subst (λ (k : ℕ). Has k c.args.seat.now.me.0.claims) (sym c.requires.pick) c.requires.claim))
