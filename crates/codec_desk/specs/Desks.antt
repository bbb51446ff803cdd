-- What a thread's seats at a desk are, and what they settle.
use Rattle.std.specs.Prelude.{ℕ, ◌≡◌, List, ◌++◌, map, Option}
use Rattle.std.specs.List.{flat_map}
use Rattle.atomic_table.specs.Seated.{TableId}
use Rattle.atomic_table.specs.declared.shared.Seat.{Seat}
use Rattle.wc_base.specs.Views.{Log}
use Rattle.wc_base.specs.declared.seat.View.{View}
use Rattle.wc_base.specs.declared.who.By.TheVariants as by
use Rattle.wc_pool.specs.declared.entry.{PoolEntry.PoolEntry, PoolOp.PoolOp}
use Rattle.coder_api.specs.declared.slot.SlotEntry.{SlotEntry}
use Rattle.codec_accounts.specs.Bags.{SameBag}
use Rattle.seat_lock.specs.Seats.{IsIdleAt}
use Rattle.seat_lock.specs.Since.{MadeSince}
use Rattle.codec_logs.specs.declared.event.Event.{Event}
use Rattle.shared_pool.specs.Steps as pools
use Rattle.shared_slots.specs.Steps as registries
use Rattle.shared_codec.specs.Dues.{slot_dues, media_dues, OwedSince}
use Rattle.shared_codec.specs.Keeps.{Keeps}
use Rattle.shared_codec.specs.Order.{told_op, slot_at, asked_at, done_at}
use Rattle.shared_codec.specs.Shared.{Shared}
use Rattle.shared_codec.specs.Sums.{dues_of}
use Rattle.shared_codec.specs.Told.{EndsAreTold}
use Rattle.codec_desk.specs.declared.desk.Desk.{Desk}
use Rattle.codec_desk.specs.declared.desk.Seats.{Seats}
use Rattle.codec_desk.specs.Each.{Pairs, Each, total_of}

-- an entry of a pool, without whether an end was the last of its resource
abbrev pub told : PoolEntry → PoolEntry
told e = record { by = e.by; op = told_op e.op }

-- the entry of a pool by which this is done for the entry of the codec k at this place
abbrev pub entry_for : ℕ → ℕ × PoolOp → PoolEntry
entry_for k p = told (record { by = by.Codec k p.0; op = p.1 })

module _ {S : Type 0} where
  -- At this place of a desk with this pool and this registry stands the codec with this number, which is of both; and the seat
  -- is at it, in no passage.
  pub record SitsAt (pool slots : TableId) (place : ℕ) (s : Shared) (a : Seat (Option S) (View Event)) : Type 0 where
    pub number : s.codec ≡ place
    pub pool_is : pool ≡ s.pool
    pub slots_is : slots ≡ s.slots
    pub idle : IsIdleAt s.id a

  -- the same seat of the codec, in no passage, which has seen more
  pub record SeesMore (s : Shared) (a b : Seat (Option S) (View Event)) : Type 0 where
    pub kept : Keeps s.id a b
    pub more : Log Event
    pub longer : b.me.0.log ≡ a.me.0.log ++ more

  -- What the entries call for that the codec's seat made since is what was made meanwhile by each of them, in order: in the registry,
  -- and in the pool.
  pub record InOrderSince (entries : List SlotEntry) (does : List PoolEntry) (s : Shared) (a b : Seat (Option S) (View Event)) : Type 0 where
    pub slots : List SlotEntry
    pub asked : OwedSince slot_dues s.codec s.opening a.me.0 b.me.0 slots
    pub slot_order : (place : ℕ) → flat_map (slot_at s.codec place) slots ≡ flat_map (slot_at s.codec place) entries
    pub media : List (ℕ × PoolOp)
    pub lent : OwedSince media_dues s.codec s.opening a.me.0 b.me.0 media
    pub media_order : (place : ℕ) → flat_map (asked_at s.codec place) media ≡ flat_map (done_at s.codec place) does

  -- What the items tell that the codec's seat ended since is so by this log of the registry.
  abbrev pub TellsSince : Log SlotEntry → Shared → Seat (Option S) (View Event) → Seat (Option S) (View Event) → Type 0
  TellsSince slots s a b = EndsAreTold slots s.codec s.opening a.me.0 b.me.0

  -- What all entries of these seats call for in the registry, and in the pool: codec after codec.
  abbrev pub slot_calls : List Shared → List (Seat (Option S) (View Event)) → List SlotEntry
  slot_calls codecs seats = total_of (λ s a. dues_of slot_dues s.codec s.opening a.me.0) codecs seats

  abbrev pub pool_calls : List Shared → List (Seat (Option S) (View Event)) → List PoolEntry
  pool_calls codecs seats = total_of (λ s a. map (entry_for s.codec) (dues_of media_dues s.codec s.opening a.me.0)) codecs seats

module _ {C : Type 0} where
  -- A thread's seats at a desk: one at each codec, in order, and one at the pool and at the registry, each in no passage and with
  -- no claim.
  pub record SitAt (desk : Desk C) (seats : Seats C) : Type 0 where
    pub codecs : Pairs (SitsAt desk.pool desk.slots.id) 0 desk.codecs.items seats.codecs.items
    pub pool : pools.IsFree desk.pool seats.pool
    pub slots : registries.IsFree desk.slots.id seats.slots

  -- What one thread did with its seats at a desk. Each stays the same seat, and has seen more. What all entries that it made at
  -- the codecs call for in the registry, and in the pool, is what it made there: what is called for grew by that, in any order, and
  -- by each entry of a codec in that entry's order. What the items that it ended tell is so by all that the registry's seat has seen.
  pub record Settled (desk : Desk C) (a b : Seats C) : Type 0 where
    pub seats : Each SeesMore desk.codecs.items a.codecs.items b.codecs.items
    pub slot_seat : Keeps desk.slots.id a.slots b.slots
    pub pool_seat : Keeps desk.pool a.pool b.pool
    pub entries : List SlotEntry
    pub made : MadeSince a.slots.me.0 b.slots.me.0 entries
    pub owed : SameBag (slot_calls desk.codecs.items b.codecs.items) (slot_calls desk.codecs.items a.codecs.items ++ entries)
    pub does : List PoolEntry
    pub pool : MadeSince a.pool.me.0 b.pool.me.0 does
    pub lends : SameBag (pool_calls desk.codecs.items b.codecs.items) (pool_calls desk.codecs.items a.codecs.items ++ map told does)
    pub order : Each (InOrderSince entries does) desk.codecs.items a.codecs.items b.codecs.items
    pub told : Each (TellsSince b.slots.me.0.log) desk.codecs.items a.codecs.items b.codecs.items
