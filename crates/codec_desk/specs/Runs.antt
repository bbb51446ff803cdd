-- Items that run by a thread's own starts.
use Rattle.std.specs.Prelude.{ℕ, List, [], ◌∷◌, Option, Some, None}
use Rattle.atomic_table.specs.declared.shared.Seat.{Seat}
use Rattle.wc_base.specs.declared.seat.View.{View}
use Rattle.seat_lock.specs.Logs.{IsNotIn}
use Rattle.codec_logs.specs.declared.event.Event.{Event}
use Rattle.codec_logs.specs.Logs.{track}
use Rattle.shared_codec.specs.Shared.{Shared}

-- the seat whose item is at work, if one is, has none of these numbers
abbrev pub IsNoneOf : Option ℕ → List ℕ → Type 0
IsNoneOf None numbers = Unit {0}
IsNoneOf (Some n) numbers = IsNotIn n numbers

module _ {S : Type 0} where
  -- by all that a seat has seen, no item is at work that it started, nor one that a seat started which it took in
  abbrev pub RunsNone : Shared → Seat (Option S) (View Event) → Type 0
  RunsNone s a = IsNoneOf (track s.opening a.me.0.log).runner a.me.0.numbers

  abbrev pub EachRunsNone : List Shared → List (Seat (Option S) (View Event)) → Type 0
  EachRunsNone [] [] = Unit {0}
  EachRunsNone (s ∷ codecs) (a ∷ seats) = RunsNone s a × EachRunsNone codecs seats
  EachRunsNone _ _ = ⊥
