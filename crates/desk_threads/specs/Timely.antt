-- The moments of what a thread made, and its reclaims.
use Rattle.std.specs.Prelude.{ℕ, ◌≡◌, ◌≤◌, Bool, true, List, [], Option}
use Rattle.std.specs.List.{sum_by}
use Rattle.atomic_table.specs.declared.shared.Seat.{Seat}
use Rattle.wc_base.specs.declared.seat.View.{View}
use Rattle.seat_lock.specs.Logs.{entries_of}
use Rattle.codec_logs.specs.declared.event.Event.{Event}
use Rattle.work_moments.specs.Moments.{Telling, may_give}
use Rattle.shared_codec.specs.Shared.{Shared}
use Rattle.shared_codec.specs.Tallies.{reclaims, refusals, untimely}
use Rattle.codec_desk.specs.declared.desk.Desk.{Desk}
use Rattle.codec_desk.specs.declared.desk.Seats.{Seats}
use Rattle.codec_desk.specs.Clocks.{EndsAt, tally, Clocked}
use Rattle.codec_desk.specs.Each.{Each, total_of}
use Rattle.desk_threads.specs.Accounts.{SawNone, AreAll}
use Rattle.desk_threads.specs.Parts.{AreSplit, AreTakenIn}

module _ {S : Type 0} where
  -- what is counted of all entries in the logs that these seats have seen
  abbrev pub tally_all : (Event → ℕ) → List Shared → List (Seat (Option S) (View Event)) → ℕ
  tally_all count codecs seats = sum_by count (total_of (λ s a. entries_of a.me.0.log) codecs seats)

module _ {C : Type 0} (fits : ℕ → Bool) (desk : Desk C) where
  -- Each end and each reclaim of a thread is at a moment that fits, and it made at most as many reclaims as it ended items whose first
  -- acquire was refused.
  pub record InTime (a : Seats C) : Type 0 where
    pub timely : tally (untimely fits) desk.codecs.items a.codecs.items ≡ 0
    pub few : tally reclaims desk.codecs.items a.codecs.items ≤ tally refusals desk.codecs.items a.codecs.items

  -- The same of all entries in the logs of the codecs.
  pub record WholeInTime (a : Seats C) : Type 0 where
    pub timely : tally_all (untimely fits) desk.codecs.items a.codecs.items ≡ 0
    pub few : tally_all reclaims desk.codecs.items a.codecs.items ≤ tally_all refusals desk.codecs.items a.codecs.items

-- A thread is in time: where its seats have seen nothing; whatever it does with a clock whose moments fit, or with none; as a part of its
-- seats is split off, for both; and where it takes in another thread's seats. Of seats that have all passages it is so of the logs.
pub record TimeStands (C : Type 0) : Type 0 where
  pub first : (fits : ℕ → Bool) (desk : Desk C) (a : Seats C) → SawNone a → InTime fits desk a
  pub kept : (fits : ℕ → Bool) (desk : Desk C) (a b : Seats C) (old now : Telling) → Clocked desk a b old now → ((m : ℕ) → may_give old.may m ≡ true → fits m ≡ true) → InTime fits desk a → InTime fits desk b
  pub rest : (fits : ℕ → Bool) (desk : Desk C) (a b : Seats C) → Each (EndsAt []) desk.codecs.items a.codecs.items b.codecs.items → InTime fits desk a → InTime fits desk b
  pub left : (fits : ℕ → Bool) (desk : Desk C) (a b n : Seats C) → AreSplit desk a b n → InTime fits desk a → InTime fits desk b
  pub new : (fits : ℕ → Bool) (desk : Desk C) (a b n : Seats C) → AreSplit desk a b n → InTime fits desk n
  pub joined : (fits : ℕ → Bool) (desk : Desk C) (a o b : Seats C) → AreTakenIn desk a o b → InTime fits desk a → InTime fits desk o → InTime fits desk b
  pub all : (fits : ℕ → Bool) (desk : Desk C) (a : Seats C) → AreAll a → InTime fits desk a → WholeInTime fits desk a
