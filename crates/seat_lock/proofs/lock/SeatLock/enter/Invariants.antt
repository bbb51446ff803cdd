use Rattle.std.specs.Prelude.{Some}
use Rattle.seat_lock.proofs.lock.SeatLock.enter.Given as goal

abbrev pub ghosts-wait_turn : goal.ghosts-wait_turn
ghosts-wait_turn g a = record { about = Some a.self.now.about }
