use Rattle.seat_lock.proofs.lock.SeatLock.cut_token.Given as goal

abbrev pub ghosts-cut_claim : goal.ghosts-cut_claim
ghosts-cut_claim g a = record { claim = a.claim }
