-- The account of a thread: what its entries call for elsewhere, and what it made there.
use Rattle.std.specs.Prelude.{◌≡◌, Bool, true, false, List, [], ◌∷◌, ◌++◌, map, Option}
use Rattle.std.specs.List.{filter}
use Rattle.atomic_table.specs.declared.shared.Seat.{Seat}
use Rattle.wc_base.specs.declared.seat.View.{View}
use Rattle.wc_base.specs.declared.who.By.{By}
use Rattle.wc_base.specs.declared.who.By.TheVariants as by
use Rattle.wc_pool.specs.declared.entry.PoolEntry.{PoolEntry}
use Rattle.coder_api.specs.declared.slot.SlotEntry.{SlotEntry}
use Rattle.codec_accounts.specs.Bags.{SameBag}
use Rattle.seat_lock.specs.Logs.{AllBy, entries_of}
use Rattle.codec_logs.specs.declared.event.Event.{Event}
use Rattle.codec_logs.specs.Logs.{opening_track}
use Rattle.shared_codec.specs.Dues.{Called, slot_dues, media_dues, call_dues}
use Rattle.shared_codec.specs.Order.{made_by}
use Rattle.shared_codec.specs.Shared.{Shared}
use Rattle.shared_codec.specs.Sums.{all_dues}
use Rattle.codec_desk.specs.declared.desk.Desk.{Desk}
use Rattle.codec_desk.specs.declared.desk.Seats.{Seats}
use Rattle.codec_desk.specs.Desks.{told, entry_for, slot_calls, pool_calls, Settled}
use Rattle.codec_desk.specs.Each.{total_of}
use Rattle.codec_desk.specs.Named.{calls_made, Calls}

-- the entry was made for an entry of a codec, and not by a step of a caller
abbrev pub is_by_codec : By → Bool
is_by_codec (by.Caller who) = false
is_by_codec (by.Codec k place) = true

-- those that were made for codecs, without whether an end was the last of its resource
abbrev pub for_codecs : List PoolEntry → List PoolEntry
for_codecs entries = map told (filter (λ e. is_by_codec e.by) entries)

module _ {C : Type 0} where
  -- What all entries of a thread call for is what it made, each as often, in any order: in the registry, and in the pool what it
  -- made there for codecs.
  pub record Balanced (desk : Desk C) (a : Seats C) : Type 0 where
    pub slots : SameBag (slot_calls desk.codecs.items a.codecs.items) (made_by a.slots.me.0)
    pub pool : SameBag (pool_calls desk.codecs.items a.codecs.items) (for_codecs (made_by a.pool.me.0))

  -- The calls of callers among all entries of a thread are these, each as often, in any order.
  abbrev pub Named : Desk C → List Called → Seats C → Type 0
  Named desk calls a = SameBag (calls_made desk.codecs.items a.codecs.items) calls

module _ {S : Type 0} where
  -- none of these seats has seen a passage
  abbrev pub EachSawNone : List (Seat (Option S) (View Event)) → Type 0
  EachSawNone [] = Unit {0}
  EachSawNone (a ∷ rest) = (a.me.0.log ≡ []) × EachSawNone rest

  -- each passage that these seats have seen is of them, or of seats that they took in
  abbrev pub EachByAll : List (Seat (Option S) (View Event)) → Type 0
  EachByAll [] = Unit {0}
  EachByAll (a ∷ rest) = AllBy a.me.0.numbers a.me.0.log × EachByAll rest

  -- what the logs that these seats have seen call for in the registry, and in the pool
  abbrev pub all_slot_calls : List Shared → List (Seat (Option S) (View Event)) → List SlotEntry
  all_slot_calls codecs seats = total_of (λ s a. all_dues slot_dues s.codec (opening_track s.opening) a.me.0.log) codecs seats

  abbrev pub all_pool_calls : List Shared → List (Seat (Option S) (View Event)) → List PoolEntry
  all_pool_calls codecs seats = total_of (λ s a. map (entry_for s.codec) (all_dues media_dues s.codec (opening_track s.opening) a.me.0.log)) codecs seats

  -- the calls of callers in the logs that these seats have seen
  abbrev pub all_calls : List Shared → List (Seat (Option S) (View Event)) → List Called
  all_calls codecs seats = total_of (λ s a. all_dues call_dues s.codec (opening_track s.opening) a.me.0.log) codecs seats

module _ {C : Type 0} where
  -- the seats have seen no passage
  pub record SawNone (a : Seats C) : Type 0 where
    pub codecs : EachSawNone a.codecs.items
    pub pool : a.pool.me.0.log ≡ []
    pub slots : a.slots.me.0.log ≡ []

  -- the seats have all passages that they have seen
  pub record AreAll (a : Seats C) : Type 0 where
    pub codecs : EachByAll a.codecs.items
    pub pool : AllBy a.pool.me.0.numbers a.pool.me.0.log
    pub slots : AllBy a.slots.me.0.numbers a.slots.me.0.log

  -- The registry's history is what the codecs' logs call for, and so is the part of the pool's that was made for codecs: each
  -- entry as often, in any order.
  pub record AllBalanced (desk : Desk C) (a : Seats C) : Type 0 where
    pub slots : SameBag (all_slot_calls desk.codecs.items a.codecs.items) (entries_of a.slots.me.0.log)
    pub pool : SameBag (all_pool_calls desk.codecs.items a.codecs.items) (for_codecs (entries_of a.pool.me.0.log))

-- the account of seats that have seen nothing is balanced
abbrev pub AccountsBegin : Type 0 → Type 0
AccountsBegin C = (desk : Desk C) (a : Seats C) → SawNone a → Balanced desk a

-- whatever a thread settles, its account is balanced
abbrev pub AccountsAreKept : Type 0 → Type 0
AccountsAreKept C = (desk : Desk C) (a b : Seats C) → Settled desk a b → Balanced desk a → Balanced desk b

-- of balanced seats that have all passages the histories are what the logs call for
abbrev pub AccountsAreHistories : Type 0 → Type 0
AccountsAreHistories C = (desk : Desk C) (a : Seats C) → AreAll a → Balanced desk a → AllBalanced desk a

-- seats that have seen nothing made no calls
abbrev pub CallsBegin : Type 0 → Type 0
CallsBegin C = (desk : Desk C) (a : Seats C) → SawNone a → Named desk [] a

-- the calls that a thread made are those of before, and those that it made since
abbrev pub CallsAreKept : Type 0 → Type 0
CallsAreKept C = (desk : Desk C) (a b : Seats C) (before since : List Called) → Calls desk since a b → Named desk before a → Named desk (before ++ since) b

-- the calls of seats that have all passages are all calls in the logs
abbrev pub CallsAreHistories : Type 0 → Type 0
CallsAreHistories C = (desk : Desk C) (a : Seats C) (calls : List Called) → AreAll a → Named desk calls a → SameBag (all_calls desk.codecs.items a.codecs.items) calls
