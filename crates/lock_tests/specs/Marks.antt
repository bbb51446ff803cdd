-- Passages that add marks to a list.
use Rattle.std.specs.Prelude.{◌≡◌, ℕ, ◌+◌, Bool, true, false, List, [], ◌∷◌, ◌++◌, length, Option, None}
use Rattle.atomic_table.specs.declared.shared.Seat.{Seat}
use Rattle.wc_base.specs.Views.{Log}
use Rattle.wc_base.specs.declared.seat.Passage.{Passage}
use Rattle.wc_base.specs.declared.seat.Passage.TheVariants.{Made, Look}
use Rattle.wc_base.specs.declared.seat.View.{View}
use Rattle.seat_lock.specs.Logs.{AllBy, entries_of}
use Rattle.seat_lock.specs.Own.{own}
use Rattle.seat_lock.specs.Seats.{IsIdleAt}
use Rattle.lock_tests.specs.declared.marks.Mark.{Mark}

-- marks have no claims
abbrev pub never_mints : {E : Type 0} → E → Bool
never_mints e = false

abbrev pub never_spends : {E : Type 0} → List E → E → Option ℕ
never_spends es e = None

-- the passage made the entry, or nothing
abbrev pub made_if : {E : Type 0} → Bool → E → Passage E
made_if true e = Made e
made_if false e = Look

-- the passages of a thread from a step on, each with whether there was room
abbrev pub steps_of : ℕ → ℕ → List Bool → List (Passage Mark)
steps_of thread step [] = []
steps_of thread step (b ∷ bs) = made_if b (record { thread = thread; step = step }) ∷ steps_of thread (step + 1) bs

-- the seat is idle at its lock again, and its own passages are those that it had made, and so many of the thread, in order
pub record Goes {S : Type 0} (thread count : ℕ) (a b : Seat (Option S) (View Mark)) : Type 0 where
  pub idle : IsIdleAt a.table_id b
  pub same_parts : b.me.0.parts ≡ a.me.0.parts
  pub answers : List Bool
  pub many : length answers ≡ count
  pub same_numbers : b.me.0.numbers ≡ a.me.0.numbers
  pub own_passages : own b.me.0.numbers b.me.0.log ≡ own a.me.0.numbers a.me.0.log ++ steps_of thread 0 answers

-- the marks of a log in which the passages of two seats stand, each once and in order, and no others
pub record IsBoth (count : ℕ) (marks : List Mark) : Type 0 where
  pub log : Log Mark
  pub is : marks ≡ entries_of log
  pub first : ℕ
  pub second : ℕ
  pub answers : List Bool
  pub others : List Bool
  pub many : length answers ≡ count
  pub as_many : length others ≡ count
  pub own_first : own (first ∷ []) log ≡ steps_of 1 0 answers
  pub own_second : own (second ∷ []) log ≡ steps_of 2 0 others
  pub apart : ¬ (first ≡ second)
  pub all : AllBy (first ∷ second ∷ []) log

-- so many entries stand in the log that the seat has seen
abbrev pub HasSeen : {S : Type 0} → ℕ → Seat (Option S) (View Mark) → Type 0
HasSeen count seat = length (entries_of seat.me.0.log) ≡ count
