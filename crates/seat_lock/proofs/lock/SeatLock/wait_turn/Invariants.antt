use Rattle.std.proofs.Common.{◌≡◌, []}
use Rattle.seat_lock.proofs.lock.SeatLock.wait_turn.Given as goal
use Rattle.seat_lock.specs.Seats.{IsSameSeat, with_phase}
use Rattle.wc_base.specs.declared.seat.Phase.TheVariants.{Waiting}

abbrev pub invariant-loop : goal.invariant-loop
invariant-loop g l = IsSameSeat l.fn.seat l.seat × (l.seat.me ≡ (with_phase l.fn.seat.me.0 (Waiting l.ticket), []))
