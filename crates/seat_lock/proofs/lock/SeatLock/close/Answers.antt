use Rattle.std.proofs.Common.{rules, ◌≡◌, Option, Some, sym, ap, ◌∙◌, subst}
use Rattle.std.specs.Option.{IsSome}
use mathlib.Core.Option.{some-injective}
use Rattle.seat_lock.proofs.Seats.{ends}
use Rattle.seat_lock.proofs.lock.SeatLock.close.Goals as goal
use Rattle.seat_lock.specs.Seats.{Lock}

pub unwrap-value-requires : goal.unwrap-value-requires
unwrap-value-requires g c =
    let e = ends g.row.S-Entry.Denot g.row.S.Denot g.S.Told.mints g.S.Told.spends (g.S.Told.tells c.self.inside.table.shared.key) _ _ _ _ c.requires.parts c.requires.seat.1.0 c.close_with-closed.ensures.values.2 in
    let is : Some e.value ≡ c.take.result = some-injective _ _ (sym e.here ∙ c.take.ensures.value) in
    subst (λ (o : Option g.row.S.Denot). IsSome o) is (search rules)

pub returns-clause-stands : goal.returns-clause-stands
returns-clause-stands g c =
    let e = ends g.row.S-Entry.Denot g.row.S.Denot g.S.Told.mints g.S.Told.spends (g.S.Told.tells c.self.inside.table.shared.key) _ _ _ _ c.requires.parts c.requires.seat.1.0 c.close_with-closed.ensures.values.2 in
    let is : Some e.value ≡ Some c.unwrap-value.result = some-injective _ _ (sym e.here ∙ c.take.ensures.value) ∙ c.unwrap-value.ensures in
    let same : e.value ≡ c.unwrap-value.result = cc in
    let about : c.self.inside.table.shared.key ≡ c.args.self.about = ap (λ (l : Lock g.row.S-About.Denot). l.about) c.self.view_is in
    subst (λ (z : g.row.S-About.Denot × g.row.S.Denot). g.S.Told.tells z.0 z.1 c.args.seat.me.0.log) (λ i. (about i, same i)) e.stands

pub returns-clause-all : goal.returns-clause-all
returns-clause-all g c =
    (ends g.row.S-Entry.Denot g.row.S.Denot g.S.Told.mints g.S.Told.spends (g.S.Told.tells c.self.inside.table.shared.key) _ _ _ _ c.requires.parts c.requires.seat.1.0 c.close_with-closed.ensures.values.2).all
