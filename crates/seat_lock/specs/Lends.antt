-- How the value of a passage is lent.
use Rattle.std.specs.Borrow.{Lends, Fml, RattleType, MutBor}
use Rattle.seat_lock.specs.contracts.held.Held.{the_row}

-- the value is the last one that is written through r
abbrev pub LendsState : (S : RattleType) → MutBor S.Denot → MutBor S.Denot → Fml
LendsState S held r = Lends (the_row S) S held r (λ value. value)
