-- What the seats and tokens of a lock have seen, once one seat has all the parts.
use Rattle.std.specs.Prelude.{◌≡◌, ℕ, ◌^◌, List, Option, Bool}
use mathlib.Core.Option.{some}
use lib.ListN.{get_elem?}
use Rattle.atomic_table.specs.Table.{State}
use Rattle.wc_base.specs.Views.{Log}
use Rattle.wc_base.specs.declared.seat.Phase.TheVariants.{Empty}
use Rattle.wc_base.specs.declared.seat.View.{View}
use Rattle.seat_lock.specs.Logs.{Continues}
use Rattle.seat_lock.specs.Rule.{LockRule}

-- where the seat id has all the parts, as it must when its lock is closed, each seat and each token has seen what that seat
-- has, or a beginning of it, and nothing else; the passages behind are of other seats
abbrev pub NoneHasSeenMore : {S E : Type 0} → (E → Bool) → (List E → E → Option ℕ) → (S → Log E → Type 0) → Type 0
NoneHasSeenMore {S} {E} mints spends tells =
    (s : State (Option S) (View E)) (id j : ℕ) (v w : View E) → LockRule mints spends tells s → get_elem? s.views id ≡ some v → v.parts ≡ 2 ^ 32
    → get_elem? s.views j ≡ some w → ¬ (w.phase ≡ Empty) → Continues w.numbers w.log v.log
