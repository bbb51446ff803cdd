use Rattle.std.proofs.Common.{rules, ap, ◌∙◌, subst, ◌∷◌, []}
use Rattle.seat_lock.proofs.Seats.{splits, takes_number}
use Rattle.seat_lock.proofs.lock.SeatLock.split.Goals as goal
use Rattle.seat_lock.specs.Logs.{NoneBy}
use Rattle.seat_lock.specs.Seats.{Sitting, with_number}

pub split_seat-other-requires : goal.split_seat-other-requires
split_seat-other-requires g c = (search rules, search rules, splits _ _ _ _ _ _ _ c.requires.seat.1.0 c.requires.parts)

pub load-requires : goal.load-requires
load-requires g c = (search rules, search rules, takes_number _ _ _ _ _ _ _ _ (ap (λ (m : Sitting g.row.S.Denot g.row.S-Entry.Denot). m.0.phase) c.split_seat-other.ensures.4))

pub returns-clause-new : goal.returns-clause-new
returns-clause-new g c =
    let t = c.load.ensures.2 in
    let is = c.split_seat-other.ensures.4 in (
      search rules,
      record {
        number = t.0;
        view = t.2 ∙ ap (λ (m : Sitting g.row.S.Denot g.row.S-Entry.Denot). (with_number m.0 t.0, m.1)) is;
        made_none = subst (λ (m : Sitting g.row.S.Denot g.row.S-Entry.Denot). NoneBy (t.0 ∷ []) m.0.log) is t.1;
      },
    )
