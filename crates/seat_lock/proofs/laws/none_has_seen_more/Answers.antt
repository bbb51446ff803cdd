use Rattle.seat_lock.proofs.Seats.{none_more}
use Rattle.seat_lock.proofs.laws.none_has_seen_more.Goals as goal

pub returns : goal.returns
returns g c = λ about. none_more g.row.S-Entry.Denot g.row.S.Denot g.S.Told.mints g.S.Told.spends (g.S.Told.tells about)
