use Rattle.std.proofs.Common.{rules, ◌≡◌, List, ◌∷◌, [], Option, Some, sym, subst}
use Rattle.atomic_table.specs.Table.{opening}
use Rattle.seat_lock.proofs.Seats.{makes}
use Rattle.seat_lock.proofs.lock.SeatLock.open.Goals as goal
use Rattle.seat_lock.specs.Rule.{LockRule}
use Rattle.seat_lock.specs.Seats.{first_view}

pub new-requires : goal.new-requires
new-requires g c =
    let items : c.push.new.self.items ≡ Some c.args.state ∷ [] = search rules in
    subst (λ (xs : List (Option g.row.S.Denot)). LockRule g.S.Told.mints g.S.Told.spends (g.S.Told.tells c.args.about.now) (opening (0 ∷ 0 ∷ []) xs first_view)) (sym items) (makes _ _ _ _ _ _ c.requires)
