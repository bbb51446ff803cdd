-- Seats at all locks of a desk, split off and joined.
use Rattle.std.specs.Prelude.{ℕ, ◌≡◌, List, [], ◌∷◌, Option}
use Rattle.atomic_table.specs.Seated.{TableId}
use Rattle.atomic_table.specs.declared.shared.Seat.{Seat}
use Rattle.wc_base.specs.declared.seat.View.{View}
use Rattle.seat_lock.specs.Passages.{IsNewSeat, IsUnion}
use Rattle.seat_lock.specs.Seats.{IsSameSeat, Becomes, less_part}
use Rattle.codec_desk.specs.declared.desk.Desk.{Desk}
use Rattle.codec_desk.specs.declared.desk.Seats.{Seats}

module _ {X A : Type 0} where
  -- This is so of each partner and of its elements in three lists.
  abbrev pub EachOfThree : (X → A → A → A → Type 0) → List X → List A → List A → List A → Type 0
  EachOfThree R [] [] [] [] = Unit {0}
  EachOfThree R (x ∷ xs) (u ∷ us) (v ∷ vs) (w ∷ ws) = R x u v w × EachOfThree R xs us vs ws
  EachOfThree R _ _ _ _ = ⊥

module _ {S E : Type 0} where
  -- One part of a seat of this lock became a seat of its own, which has seen what the seat has and has made nothing.
  pub record IsSplit (id : TableId) (a b n : Seat (Option S) (View E)) : Type 0 where
    pub left : Becomes (less_part a.me.0) a b
    pub at : n.table_id ≡ id
    pub new : IsNewSeat a.me.0 n

  -- a seat took in another one
  pub record IsJoin (a o b : Seat (Option S) (View E)) : Type 0 where
    pub same : IsSameSeat a b
    pub both : IsUnion a.me.0 o.me.0 b

  -- each of these seats has so many parts
  abbrev pub EachHas : ℕ → List (Seat (Option S) (View E)) → Type 0
  EachHas n [] = Unit {0}
  EachHas n (a ∷ rest) = (a.me.0.parts ≡ n) × EachHas n rest

module _ {C : Type 0} where
  -- each seat of a thread has so many parts
  pub record HaveParts (n : ℕ) (a : Seats C) : Type 0 where
    pub codecs : EachHas n a.codecs.items
    pub pool : a.pool.me.0.parts ≡ n
    pub slots : a.slots.me.0.parts ≡ n

  -- one part of each seat of a thread became a seat of another thread
  pub record AreSplit (desk : Desk C) (a b n : Seats C) : Type 0 where
    pub codecs : EachOfThree (λ s u v w. IsSplit s.id u v w) desk.codecs.items a.codecs.items b.codecs.items n.codecs.items
    pub pool : IsSplit desk.pool a.pool b.pool n.pool
    pub slots : IsSplit desk.slots.id a.slots b.slots n.slots

  -- each seat of a thread took in that of another thread
  pub record AreTakenIn (desk : Desk C) (a o b : Seats C) : Type 0 where
    pub codecs : EachOfThree (λ s u v w. IsJoin u v w) desk.codecs.items a.codecs.items o.codecs.items b.codecs.items
    pub pool : IsJoin a.pool o.pool b.pool
    pub slots : IsJoin a.slots o.slots b.slots
