-- What stays of a seat, whatever passages are made with it.
use Rattle.std.proofs.Common.{◌≡◌, List, Option, refl, ◌∙◌}
use Rattle.atomic_table.specs.Seated.{TableId}
use Rattle.atomic_table.specs.declared.shared.Seat.{Seat}
use Rattle.wc_base.specs.declared.seat.View.{View}
use Rattle.seat_lock.specs.Seats.{IsSameSeat, IsIdleAt}
use Rattle.seat_lock.specs.Since.{MadeSince}

module _ {S E : Type 0} where
  -- the same seat of this lock, in no passage, with the same number, numbers and parts
  pub record Keeps (id : TableId) (a b : Seat (Option S) (View E)) : Type 0 where
    pub same : IsSameSeat a b
    pub idle : IsIdleAt id b
    pub number : b.me.0.number ≡ a.me.0.number
    pub numbers : b.me.0.numbers ≡ a.me.0.numbers
    pub parts : b.me.0.parts ≡ a.me.0.parts

  pub keeps_none : (id : TableId) (a : Seat (Option S) (View E)) → IsIdleAt id a → Keeps id a a
  keeps_none id a idle = record { same = (refl, refl); idle = idle; number = refl; numbers = refl; parts = refl }

  pub keeps_then : (id : TableId) (a b c : Seat (Option S) (View E)) → Keeps id a b → Keeps id b c → Keeps id a c
  keeps_then id a b c k l = record {
    same = (l.same.0 ∙ k.same.0, l.same.1 ∙ k.same.1);
    idle = l.idle;
    number = l.number ∙ k.number;
    numbers = l.numbers ∙ k.numbers;
    parts = l.parts ∙ k.parts;
  }

  -- a seat that made some entries since, and is idle again
  pub keeps_since : (id : TableId) (a b : Seat (Option S) (View E)) (es : List E) → IsSameSeat a b → IsIdleAt id b → MadeSince a.me.0 b.me.0 es → Keeps id a b
  keeps_since id a b es same idle made = record { same = same; idle = idle; number = made.number; numbers = made.numbers; parts = made.parts }
