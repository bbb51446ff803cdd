-- The order of what a thread made elsewhere: by each entry of a codec, that in which the entry calls for it. What the items tell that it
-- ended.
use Rattle.std.specs.Prelude.{ℕ, ◌≡◌, Option}
use Rattle.std.specs.List.{flat_map}
use Rattle.atomic_table.specs.declared.shared.Seat.{Seat}
use Rattle.wc_base.specs.Views.{Log}
use Rattle.wc_base.specs.declared.seat.View.{View}
use Rattle.wc_pool.specs.declared.entry.PoolEntry.{PoolEntry}
use Rattle.coder_api.specs.declared.slot.SlotEntry.{SlotEntry}
use Rattle.seat_lock.specs.Logs.{entries_of}
use Rattle.codec_logs.specs.declared.event.Event.{Event}
use Rattle.codec_logs.specs.Logs.{opening_track, IsLog}
use Rattle.shared_codec.specs.Dues.{slot_dues, media_dues}
use Rattle.shared_codec.specs.Order.{made_by, IsInOrder, slot_at, asked_at, done_at}
use Rattle.shared_codec.specs.Shared.{Shared}
use Rattle.shared_codec.specs.Sums.{all_dues, dues_of}
use Rattle.shared_codec.specs.Told.{end_dues, AreTold}
use Rattle.codec_desk.specs.declared.desk.Desk.{Desk}
use Rattle.codec_desk.specs.declared.desk.Seats.{Seats}
use Rattle.codec_desk.specs.Desks.{SitAt, Settled}
use Rattle.codec_desk.specs.Each.{Pairs}
use Rattle.desk_threads.specs.Accounts.{SawNone, AreAll}
use Rattle.desk_threads.specs.Parts.{AreSplit, AreTakenIn}

module _ {S : Type 0} where
  -- Where the seat's log is one of its codec, what these seats made by each entry of the codec is what the entries of the seat call for
  -- by it, in order: in the registry, and in the pool.
  -- What the items tell that it ended is so by all that the registry's seat has seen.
  abbrev pub IsOrdered : View SlotEntry → View PoolEntry → ℕ → Shared → Seat (Option S) (View Event) → Type 0
  IsOrdered slots pool n s u = IsLog s.codec s.opening u.me.0.log
      → IsInOrder slot_dues slot_at slot_at s.codec s.opening u.me.0 (made_by slots)
      × IsInOrder media_dues asked_at done_at s.codec s.opening u.me.0 (made_by pool)
      × AreTold (entries_of slots.log) (dues_of end_dues s.codec s.opening u.me.0)

  -- Where this log is one of the codec, these histories have by each entry of the codec what it calls for, in order. What the items
  -- tell that it ends is so by the registry's history.
  abbrev pub IsWholeInOrder : Log SlotEntry → Log PoolEntry → ℕ → Shared → Seat (Option S) (View Event) → Type 0
  IsWholeInOrder slots pool n s u = IsLog s.codec s.opening u.me.0.log
      → ((place : ℕ) → flat_map (slot_at s.codec place) (all_dues slot_dues s.codec (opening_track s.opening) u.me.0.log) ≡ flat_map (slot_at s.codec place) (entries_of slots))
      × ((place : ℕ) → flat_map (asked_at s.codec place) (all_dues media_dues s.codec (opening_track s.opening) u.me.0.log) ≡ flat_map (done_at s.codec place) (entries_of pool))
      × AreTold (entries_of slots) (all_dues end_dues s.codec (opening_track s.opening) u.me.0.log)

module _ {C : Type 0} where
  abbrev pub InOrder : Desk C → Seats C → Type 0
  InOrder desk a = Pairs (IsOrdered a.slots.me.0 a.pool.me.0) 0 desk.codecs.items a.codecs.items

  abbrev pub WholeInOrder : Desk C → Seats C → Type 0
  WholeInOrder desk a = Pairs (IsWholeInOrder a.slots.me.0.log a.pool.me.0.log) 0 desk.codecs.items a.codecs.items

-- What a thread made is in order: where its seats have seen nothing; whatever it settles; as a part of its seats is split off, for both;
-- and where it takes in another thread's seats. Of seats that have all passages it is so of the histories.
pub record OrderStands (C : Type 0) : Type 0 where
  pub first : (desk : Desk C) (a : Seats C) → SitAt desk a → SawNone a → InOrder desk a
  pub kept : (desk : Desk C) (a b : Seats C) → Settled desk a b → InOrder desk a → InOrder desk b
  pub left : (desk : Desk C) (a b n : Seats C) → AreSplit desk a b n → InOrder desk a → InOrder desk b
  pub new : (desk : Desk C) (a b n : Seats C) → AreSplit desk a b n → InOrder desk n
  pub joined : (desk : Desk C) (a o b : Seats C) → AreTakenIn desk a o b → InOrder desk a → InOrder desk o → InOrder desk b
  pub all : (desk : Desk C) (a : Seats C) → AreAll a → InOrder desk a → WholeInOrder desk a
