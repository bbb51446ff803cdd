use Rattle.seat_lock.proofs.lock.SeatLock.leave.Given as goal
use Rattle.seat_lock.specs.Passages.{passage_of}

abbrev pub ghosts-publish : goal.ghosts-publish
ghosts-publish g a = record { passage = passage_of a.passage.now }
