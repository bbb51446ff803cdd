-- An item of one codec of a desk, from its start to its end, with its acquires and a reclaim between them.
use Rattle.std.specs.Prelude.{ℕ, suc, ◌≡◌, List, [], ◌∷◌, ◌++◌, length, map, Option, Some, None, slice_get}
use Rattle.std.specs.List.{flat_map}
use Rattle.atomic_table.specs.declared.shared.Seat.{Seat}
use Rattle.wc_base.specs.declared.{seat.View.View, ground.Ground.Ground}
use Rattle.wc_config.specs.declared.{codec.CoderId.CoderId, kind.Kind.Kind}
use Rattle.wc_pool.specs.declared.entry.{PoolEntry.PoolEntry}
use Rattle.coder_api.specs.declared.slot.SlotEntry.{SlotEntry}
use Rattle.codec_model.specs.Control.{is_decoder}
use Rattle.codec_core.specs.Job.{JobValue, DoneValue, outcome_of}
use Rattle.codec_accounts.specs.Bags.{SameBag}
use Rattle.seat_lock.specs.Logs.{entries_of}
use Rattle.seat_lock.specs.Since.{MadeSince}
use Rattle.codec_logs.specs.declared.event.Event.{Event}
use Rattle.codec_logs.specs.Logs.{track}
use Rattle.reclaimer.specs.declared.holder.Holder.{Holder}
use Rattle.reclaimer.specs.Picks.{IsPicked, IsUnpicked}
use Rattle.shared_slots.specs.Steps.{IsFree}
use Rattle.shared_codec.specs.declared.codec.Locked.{Locked}
use Rattle.shared_codec.specs.declared.workers.Acquired.{Acquired}
use Rattle.shared_codec.specs.declared.workers.Acquired.TheVariants as acquired
use Rattle.shared_codec.specs.declared.workers.Lack.{Lack}
use Rattle.shared_codec.specs.declared.workers.Lack.TheVariants as lack
use Rattle.shared_codec.specs.Dues.{OwedSince, slot_dues}
use Rattle.shared_codec.specs.Keeps.{Keeps}
use Rattle.shared_codec.specs.Looks.{HoldingTells}
use Rattle.shared_codec.specs.Order.{slot_at}
use Rattle.shared_codec.specs.Settled.{ReclaimOnceTells}
use Rattle.shared_codec.specs.Settles.{SettlesAfter}
use Rattle.shared_codec.specs.Shared.{Shared, MayEnd}
use Rattle.shared_codec.specs.Told.{IsTold, asked_in, ending_of}
use Rattle.shared_codec.specs.Workers.{IsAtWork, MayWork, LackIs, BeginsIn, FinishTells}
use Rattle.work_moments.specs.Moments.{Telling, Given}
use Rattle.codec_desk.specs.declared.desk.Desk.{Desk}
use Rattle.codec_desk.specs.declared.desk.Seats.{Seats}
use Rattle.codec_desk.specs.Clocks.{Timed}
use Rattle.codec_desk.specs.Desks.{told, SeesMore, InOrderSince, TellsSince, slot_calls, pool_calls, SitAt, Settled}
use Rattle.codec_desk.specs.Each.{Each, OneAt}
use Rattle.codec_desk.specs.Named.{Calls}
use Rattle.codec_desk.specs.Runs.{RunsNone}

-- ---- holders of coders

-- a codec holds a coder where it is configured and an item of its configuration has ended
abbrev pub holder_if : ℕ → Option ℕ → Ground → Kind → List Holder
holder_if k None at kind = []
holder_if k (Some progress) at kind = (let ground : Ground = at in record { codec = k; progress = progress; decoder = is_decoder kind; ground = ground } ∷ [])

-- the holders by what was seen of each codec, from the codec with this number on
abbrev pub holders_from : ℕ → List (Option ℕ × Ground × Kind) → List Holder
holders_from k [] = []
holders_from k (seen ∷ rest) = holder_if k seen.0 seen.1 seen.2 ++ holders_from (suc k) rest

-- ---- acquires

-- what an acquire made, and what it leaves lacking
abbrev pub made_by : Acquired → List SlotEntry
made_by (acquired.Granted e) = e ∷ []
made_by (acquired.Refused e n) = e ∷ []
made_by acquired.NoMemory = []

abbrev pub lack_of : Acquired → Option Lack
lack_of (acquired.Granted e) = None
lack_of (acquired.Refused e n) = Some (lack.NoSlot n)
lack_of acquired.NoMemory = Some lack.NoMemory

module _ {S : Type 0} where
  -- Whatever the seat made since, it left an item at work that is its own, and it started none. Where one was at work, what it made
  -- calls for nothing in the registry.
  pub record LeavesItems (s : Shared) (a b : Seat (Option S) (View Event)) : Type 0 where
    pub runs : RunsNone s a → RunsNone s b
    pub work : (asked : Option CoderId) (job : JobValue) (es : List SlotEntry) → IsAtWork s a.me.0 asked job es → IsAtWork s b.me.0 asked job es
    pub owes : (asked : Option CoderId) (job : JobValue) (es : List SlotEntry) → IsAtWork s a.me.0 asked job es → OwedSince slot_dues s.codec s.opening a.me.0 b.me.0 []

  -- a start, with this job
  abbrev pub Begun : JobValue → Shared → Seat (Option S) (View Event) → Seat (Option S) (View Event) → Type 0
  Begun job s a b = BeginsIn s job a b

  -- an end, and what it lets go, where these acquires were made before it
  pub record EndsIn (es : List SlotEntry) (d : DoneValue) (moment place : ℕ) (c e : View SlotEntry) (p q : View PoolEntry) (s : Shared) (a b : Seat (Option S) (View Event)) : Type 0 where
    pub finish : FinishTells s d es moment place a b
    pub kept : Keeps s.id a b
    pub settles : SettlesAfter es s a.me.0 b.me.0 c e p q

  -- these codecs were looked at, one after the other, and this was seen; with the others nothing was done
  abbrev pub SawFirst : List (Option ℕ × Ground × Kind) → List Shared → List (Seat (Option S) (View Event)) → List (Seat (Option S) (View Event)) → Type 0
  SawFirst [] xs us vs = vs ≡ us
  SawFirst (seen ∷ rest) [] us vs = ⊥
  SawFirst (seen ∷ rest) (x ∷ xs) [] vs = ⊥
  SawFirst (seen ∷ rest) (x ∷ xs) (u ∷ us) [] = ⊥
  SawFirst (seen ∷ rest) (x ∷ xs) (u ∷ us) (v ∷ vs) = HoldingTells x seen u v × SawFirst rest xs us vs

  -- by a look at each codec, in order, these hold a coder
  pub record SawHolders (xs : List Shared) (us vs : List (Seat (Option S) (View Event))) (holders : List Holder) : Type 0 where
    pub seen : List (Option ℕ × Ground × Kind)
    pub all : length seen ≡ length xs
    pub saw : SawFirst seen xs us vs
    pub are : holders ≡ holders_from 0 seen

module _ {C : Type 0} where
  -- the item of the codec at this place that is at work is of this seat of a thread
  pub record WorksAt (desk : Desk C) (place : ℕ) (asked : Option CoderId) (job : JobValue) (es : List SlotEntry) (a : Seats C) : Type 0 where
    pub codec : Shared
    pub seat : Seat (Option (Locked C)) (View Event)
    pub codec_is : slice_get desk.codecs.items place ≡ Some codec
    pub seat_is : slice_get a.codecs.items place ≡ Some seat
    pub work : IsAtWork codec seat.me.0 asked job es

  -- the item of the codec at this place may end so
  pub record MayEndAt (desk : Desk C) (place : ℕ) (d : DoneValue) (es : List SlotEntry) (a : Seats C) : Type 0 where
    pub codec : Shared
    pub seat : Seat (Option (Locked C)) (View Event)
    pub codec_is : slice_get desk.codecs.items place ≡ Some codec
    pub seat_is : slice_get a.codecs.items place ≡ Some seat
    pub may : MayEnd codec seat.me.0 d es
    pub told : IsTold (entries_of a.slots.me.0.log) (ending_of (asked_in (track codec.opening seat.me.0.log)) es (outcome_of d.ended))

  -- What one thread did with its seats as items at work stay.
  pub record Meanwhile (desk : Desk C) (old now : Telling) (a b : Seats C) : Type 0 where
    pub sits : SitAt desk b
    pub settled : Settled desk a b
    pub calls : Calls desk [] a b
    pub timed : Timed desk a b old now
    pub leaves : Each LeavesItems desk.codecs.items a.codecs.items b.codecs.items

  -- As `Settled`, but that these entries of the registry were made too, which no entry of a codec calls for so far.
  pub record SettledBut (desk : Desk C) (ahead : List SlotEntry) (a b : Seats C) : Type 0 where
    pub seats : Each SeesMore desk.codecs.items a.codecs.items b.codecs.items
    pub slot_seat : Keeps desk.slots.id a.slots b.slots
    pub pool_seat : Keeps desk.pool a.pool b.pool
    pub entries : List SlotEntry
    pub made : MadeSince a.slots.me.0 b.slots.me.0 entries
    pub called : List SlotEntry
    pub owed : SameBag (slot_calls desk.codecs.items b.codecs.items) (slot_calls desk.codecs.items a.codecs.items ++ called)
    pub rest : SameBag entries (called ++ ahead)
    pub places : (k place : ℕ) → flat_map (slot_at k place) entries ≡ flat_map (slot_at k place) (called ++ ahead)
    pub does : List PoolEntry
    pub pool : MadeSince a.pool.me.0 b.pool.me.0 does
    pub lends : SameBag (pool_calls desk.codecs.items b.codecs.items) (pool_calls desk.codecs.items a.codecs.items ++ map told does)
    pub order : Each (InOrderSince called does) desk.codecs.items a.codecs.items b.codecs.items
    pub told : Each (TellsSince b.slots.me.0.log) desk.codecs.items a.codecs.items b.codecs.items

  -- ---- what a worker did for a box

  -- the seats at the codecs and at the pool are as they were
  pub record OnlySlots (desk : Desk C) (a b : Seats C) : Type 0 where
    pub codecs : b.codecs.items ≡ a.codecs.items
    pub pool : b.pool ≡ a.pool
    pub slots : Keeps desk.slots.id a.slots b.slots
    pub free : IsFree desk.slots.id b.slots

  -- A look at each codec, and then a clock that told these moments before and now; where a codec is picked by these, one reclaim of it
  -- at the clock's moment, and else nothing.
  abbrev pub ReclaimedIf : Desk C → Option ℕ → ℕ → List Holder → Seats C → Seats C → Type 0
  ReclaimedIf desk None moment holders a b = IsUnpicked moment holders × (b ≡ a)
  ReclaimedIf desk (Some k) moment holders a b = IsPicked moment holders k × ((made : Option ℕ) × OneAt k (λ s u v. ReclaimOnceTells s moment made u v) desk.codecs.items a.codecs.items b.codecs.items)

  pub record LookedForRoom (desk : Desk C) (picked : Option ℕ) (old now : Telling) (a b : Seats C) : Type 0 where
    pub looked : Seats C
    pub holders : List Holder
    pub saw : SawHolders desk.codecs.items a.codecs.items looked.codecs.items holders
    pub moment : ℕ
    pub given : Given old (moment ∷ []) now
    pub reclaimed : ReclaimedIf desk picked moment holders looked b

  -- ---- a job that seeks a box

  -- Since the start of the item of the codec at this place these acquires were made for its job, and items at work stayed.
  pub record Seeks (desk : Desk C) (place : ℕ) (asked : Option CoderId) (job : JobValue) (es : List SlotEntry) (old now : Telling) (a b : Seats C) : Type 0 where
    pub sits : SitAt desk b
    pub work : WorksAt desk place asked job es b
    pub but : SettledBut desk es a b
    pub calls : Calls desk [] a b
    pub timed : Timed desk a b old now
    pub leaves : Each LeavesItems desk.codecs.items a.codecs.items b.codecs.items

  -- It has a box then, or this is why it has none.
  pub record Sought (desk : Desk C) (place : ℕ) (asked : Option CoderId) (job : JobValue) (es : List SlotEntry) (l : Option Lack) (old now : Telling) (a b : Seats C) : Type 0 where
    pub seeks : Seeks desk place asked job es old now a b
    pub may : MayWork l job
    pub lacks : LackIs (entries_of b.slots.me.0.log) asked es l
