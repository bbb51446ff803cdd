use Rattle.std.proofs.Common.{rules, ap, sym, subst, ◌++◌, ◌∷◌, []}
use Rattle.seat_lock.proofs.Ends.{publishes_held, leave_ends}
use Rattle.seat_lock.proofs.lock.SeatLock.publish.Goals as goal
use Rattle.seat_lock.specs.Seats.{Lock}

pub fetch_add-requires : goal.fetch_add-requires
fetch_add-requires g c =
    let h = c.requires.log in
    let about = ap (λ (l : Lock g.row.S-About.Denot). l.about) c.self.view_is in
    let stands = subst (λ (z : g.row.S-About.Denot). g.S.Told.tells z c.args.state (h.log ++ (c.args.seat.now.me.0.number, g.W.PassagePick.passage) ∷ [])) (sym about) h.stands in
    (search rules, search rules, publishes_held g.S.Told.mints g.S.Told.spends (g.S.Told.tells c.self.inside.table.shared.key) _ _ g.W.PassagePick.passage _ _ _ _ h.log _ h.inside.phase h.inside.slot c.exchange-old.ensures.3 stands h.has_claim)

pub returns-clause-log : goal.returns-clause-log
returns-clause-log g c log inside = leave_ends g.S.Told.mints g.S.Told.spends g.W.PassagePick.passage _ _ _ _ _ inside.slot c.exchange-old.ensures.3 c.fetch_add.ensures.2 inside.ticket log inside.phase
