-- What a worker does with an item: its start, its acquires, its work and its end.
use Rattle.std.specs.Prelude.{ℕ, ◌≡◌, Bool, true, List, [], ◌∷◌, map, Option, Some, None, is_some}
use Rattle.atomic_table.specs.declared.shared.Seat.{Seat}
use Rattle.wc_base.specs.declared.who.By.TheVariants as by
use Rattle.wc_base.specs.Views.{Log}
use Rattle.wc_base.specs.declared.seat.View.{View}
use Rattle.wc_config.specs.declared.codec.CoderId.{CoderId}
use Rattle.wc_pool.specs.declared.entry.{PoolEntry.PoolEntry}
use Rattle.wc_pool.specs.declared.reference.MediaRef.{MediaRef}
use Rattle.wc_pool.specs.Pools.{ended_by}
use Rattle.coder_api.specs.Lent.{Lent}
use Rattle.coder_api.specs.declared.slot.SlotEntry.{SlotEntry}
use Rattle.codec_model.specs.Control.{kind_of, start_item}
use Rattle.codec_model.specs.Replay.{State, Given as Input, answer_to}
use Rattle.codec_model.specs.declared.entry.Ended.TheVariants as ended
use Rattle.codec_model.specs.declared.entry.{Ended.Ended, Opening.Opening}
use Rattle.codec_accounts.specs.Boxes.{newer}
use Rattle.codec_core.specs.Job.{JobValue, DoneValue, IsJob, IsJobOf, EndsBy, missing_id, with_box}
use Rattle.seat_lock.specs.Since.{MadeSince}
use Rattle.codec_logs.specs.declared.event.Event.{Event}
use Rattle.codec_logs.specs.Logs.{track, box_of, BoxIs, AreTries}
use Rattle.shared_slots.specs.Boxes.{Registry, IsOut, IfOut}
use Rattle.shared_slots.specs.Steps.{went_out, refused, AcquiredAfter, RefusedAfter}
use Rattle.atomic_table.specs.Seated.{TableId}
use Rattle.shared_codec.specs.declared.workers.Acquired.{Acquired}
use Rattle.shared_codec.specs.declared.workers.Acquired.TheVariants as acquired
use Rattle.shared_codec.specs.declared.workers.Lack.{Lack}
use Rattle.shared_codec.specs.declared.workers.Lack.TheVariants as lack
use Rattle.shared_codec.specs.Dues.{ends_at, DoFor}
use Rattle.codec_media.specs.Holding.{EndedValue, pair_of}
use Rattle.shared_codec.specs.Shared.{Shared, NoneIn}
use Rattle.shared_codec.specs.Told.{asked_in, AreOfAsked, IsRefusalAt}
use Rattle.shared_codec.specs.Jobs.{StartedIn, DoneIn}
use Rattle.work_moments.specs.Moments.{Telling, Given}

-- each of these is by the entry of the codec k at this place
abbrev pub AreBy : ℕ → ℕ → List SlotEntry → Type 0
AreBy k place [] = Unit {0}
AreBy k place (a ∷ rest) = (a.by ≡ by.Codec k place) × AreBy k place rest

-- ---- an item at work

-- the same job, but that it has no box where it lacks one
pub record IsBareOf (old new : JobValue) : Type 0 where
  pub lacks : missing_id new ≡ missing_id old
  pub place : new.place ≡ old.place
  pub epoch : new.epoch ≡ old.epoch
  pub number : new.number ≡ old.number
  pub none : is_some (missing_id old) ≡ true → new.coder ≡ None

-- By this log the item at work is of the seat with number n, and this is its job now. Its start asked for a box of this coder, or
-- for none, and made these acquires. The job's box, if it has one, is that of the accounts, or the one that went out by them.
pub record IsAtWorkBy (k : ℕ) (o : Opening) (slots : TableId) (n : ℕ) (log : Log Event) (asked : Option CoderId) (job : JobValue) (es : List SlotEntry) : Type 0 where
  pub runner : (track o log).runner ≡ Some n
  pub runs : (track o log).holds.runs ≡ true
  pub job_is : IsJobOf (track o log).state job
  pub asked_is : asked_in (track o log) ≡ asked
  pub asks : is_some asked ≡ true → ((track o log).holds.waits ≡ true) × ((track o log).holds.since ≡ Some job.place) × ((track o log).holds.box ≡ None)
  pub box : BoxIs k (track o log).holds.since (newer (box_of es) (track o log).holds.box) job.coder
  pub out : IfOut slots job.coder
  pub caused : AreBy k job.place es
  pub ids : AreOfAsked asked es
  pub none : asked ≡ None → es ≡ []
  pub tries : AreTries es

-- the same by the log that a seat has seen
abbrev pub IsAtWork : Shared → View Event → Option CoderId → JobValue → List SlotEntry → Type 0
IsAtWork s v asked job es = IsAtWorkBy s.codec s.opening s.slots v.number v.log asked job es

-- ---- acquires

-- by this entry a box went out for the job of the codec k, which has it
pub record IsGranted (r : Registry) (k : ℕ) (id : CoderId) (e : SlotEntry) (old new : JobValue) (v w : View SlotEntry) : Type 0 where
  pub lent : Lent
  pub is : e ≡ went_out (by.Codec k old.place) id lent.number
  pub after : AcquiredAfter r.made (by.Codec k old.place) id lent v w
  pub out : IsOut r.id lent
  pub job : new ≡ with_box (Some lent) old
  pub serves : missing_id new ≡ None
  pub stays : (t : State) → IsJobOf t old → IsJobOf t new

-- by this entry with this place none went out: all were out
pub record IsRefused (r : Registry) (k : ℕ) (id : CoderId) (e : SlotEntry) (n : ℕ) (old new : JobValue) (v w : View SlotEntry) : Type 0 where
  pub out : ℕ
  pub all : ℕ
  pub is : e ≡ refused (by.Codec k old.place) id out all
  pub after : RefusedAfter r.made (by.Codec k old.place) id n out all v w
  pub same : new ≡ old

-- what became of an acquire of a box of this coder, for a job of the codec k that has none
abbrev pub AcquireGives : Registry → ℕ → CoderId → Acquired → JobValue → JobValue → View SlotEntry → View SlotEntry → Type 0
AcquireGives r k id (acquired.Granted e) old new v w = IsGranted r k id e old new v w
AcquireGives r k id (acquired.Refused e n) old new v w = IsRefused r k id e n old new v w
AcquireGives r k id acquired.NoMemory old new v w = MadeSince v w [] × (new ≡ old)

-- Why a job that asked for a box, or for none, has none after these acquires, by the registry's history: the last of them was
-- refused, or memory was wanted. With no reason a box went out, if one was asked for.
abbrev pub LackIs : List SlotEntry → Option CoderId → List SlotEntry → Option Lack → Type 0
LackIs slots None es None = Unit {0}
LackIs slots (Some id) es None = is_some (box_of es) ≡ true
LackIs slots None es (Some l) = ⊥
LackIs slots (Some id) es (Some (lack.NoSlot n)) = IsRefusalAt slots n id es
LackIs slots (Some id) es (Some lack.NoMemory) = Unit {0}

-- ---- its work

-- a job that lacks no box can be performed; one that ends for what it lacks has none
abbrev pub MayWork : Option Lack → JobValue → Type 0
MayWork None job = missing_id job ≡ None
MayWork (Some l) job = (is_some (missing_id job) ≡ true) × (job.coder ≡ None)

-- how a job ends: by an answer of the codec's definition, or for what it lacks
abbrev pub WorkEnds : Option Lack → JobValue → Ended → Type 0
WorkEnds None job end = (g : Input) → IsJob g job → EndsBy (answer_to (kind_of job.work) g) end
WorkEnds (Some (lack.NoSlot n)) job end = end ≡ ended.NoSlot n
WorkEnds (Some lack.NoMemory) job end = end ≡ ended.NoMemory

-- ---- what its end lets go

-- the end of a reference, if there is one
abbrev pub EndsIf : ℕ → ℕ → Option MediaRef → View PoolEntry → View PoolEntry → Type 0
EndsIf k place None v w = MadeSince v w []
EndsIf k place (Some r) v w = (last : Bool) × MadeSince v w (ended_by (by.Codec k place) r last ∷ [])

-- the ends of these references, in order
pub record EndsAll (k place : ℕ) (media : List MediaRef) (v w : View PoolEntry) : Type 0 where
  pub entries : List PoolEntry
  pub made : MadeSince v w entries
  pub are : DoFor k (ends_at place (map pair_of media)) entries

module _ {S : Type 0} where
  -- ---- what a worker's calls tell

  -- a start, once the box that its job came with has gone back where it lacks another
  pub record BeginsIn (s : Shared) (job : JobValue) (a b : Seat (Option S) (View Event)) : Type 0 where
    pub came : JobValue
    pub started : StartedIn s came a b
    pub bare : IsBareOf came job
    pub work : IsAtWork s b.me.0 (missing_id job) job []

  -- none where no item may start
  abbrev pub BeginTells : Shared → Option JobValue → Seat (Option S) (View Event) → Seat (Option S) (View Event) → Type 0
  BeginTells s (Some job) a b = BeginsIn s job a b
  BeginTells s None a b = NoneIn s (λ x. start_item x ≡ None) a b

  -- an end, by its entry's place
  abbrev pub FinishTells : Shared → DoneValue → List SlotEntry → ℕ → ℕ → Seat (Option S) (View Event) → Seat (Option S) (View Event) → Type 0
  FinishTells s d es moment place a b = (back : EndedValue) × (place ≡ back.place) × DoneIn s d es moment back a b

  -- one item from its start to its end, at a moment that a clock gave, which told these moments before and now
  pub record WorkedIn (s : Shared) (place : ℕ) (old now : Telling) (a b : Seat (Option S) (View Event)) : Type 0 where
    pub middle : Seat (Option S) (View Event)
    pub job : JobValue
    pub begins : BeginsIn s job a middle
    pub done : DoneValue
    pub acquires : List SlotEntry
    pub moment : ℕ
    pub given : Given old (moment ∷ []) now
    pub finish : FinishTells s done acquires moment place middle b

  -- the item at the front was worked, or nothing could start
  abbrev pub WorkTells : Shared → Option ℕ → Telling → Telling → Seat (Option S) (View Event) → Seat (Option S) (View Event) → Type 0
  WorkTells s None old now a b = NoneIn s (λ x. start_item x ≡ None) a b × (now ≡ old)
  WorkTells s (Some place) old now a b = WorkedIn s place old now a b
