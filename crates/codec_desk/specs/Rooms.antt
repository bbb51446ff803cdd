-- How a worker seeks a box for a job: an acquire, and where that was refused and a codec could be picked, its reclaim and a second
-- acquire.
use Rattle.std.specs.Prelude.{ℕ, ◌≡◌, List, [], ◌∷◌, Option, Some, None, slice_get}
use Rattle.wc_config.specs.declared.codec.CoderId.{CoderId}
use Rattle.coder_api.specs.declared.slot.SlotEntry.{SlotEntry}
use Rattle.codec_core.specs.Job.{JobValue, DoneValue, missing_id}
use Rattle.shared_codec.specs.declared.workers.Acquired.{Acquired}
use Rattle.shared_codec.specs.declared.workers.Acquired.TheVariants as acquired
use Rattle.shared_codec.specs.declared.workers.Lack.{Lack}
use Rattle.shared_codec.specs.declared.workers.Lack.TheVariants as lack
use Rattle.shared_codec.specs.Shared.{Shared}
use Rattle.shared_codec.specs.Workers.{AcquireGives, WorkEnds, BeginTells}
use Rattle.work_moments.specs.Moments.{Telling, Given}
use Rattle.codec_desk.specs.declared.desk.Desk.{Desk}
use Rattle.codec_desk.specs.declared.desk.Seats.{Seats}
use Rattle.codec_desk.specs.declared.rooms.Room.{Room}
use Rattle.codec_desk.specs.declared.rooms.Room.TheVariants as room
use Rattle.codec_desk.specs.Each.{OneAt}
use Rattle.codec_desk.specs.Items.{Begun, EndsIn, LookedForRoom, OnlySlots, made_by, lack_of}

module _ {C : Type 0} where
  -- each codec was looked at, and one was picked or none; or nothing was done for want of memory
  abbrev pub RoomTells : Desk C → Room → Telling → Telling → Seats C → Seats C → Type 0
  RoomTells desk (room.Picked k) old now a b = LookedForRoom desk (Some k) old now a b
  RoomTells desk room.Unpicked old now a b = LookedForRoom desk None old now a b
  RoomTells desk room.NoMemory old now a b = (b ≡ a) × (now ≡ old)

  -- one acquire for the job of the item of the codec at this place, and nothing else
  pub record AcquiresOnce (desk : Desk C) (place : ℕ) (id : CoderId) (r : Acquired) (job new : JobValue) (a b : Seats C) : Type 0 where
    pub only : OnlySlots desk a b
    pub gives : (s : Shared) → slice_get desk.codecs.items place ≡ Some s → AcquireGives desk.slots s.codec id r job new a.slots.me.0 b.slots.me.0

  -- what follows the first acquire, a refusal with this place: where a codec was picked, a second one, and else nothing
  abbrev pub AgainIf : Room → Desk C → ℕ → CoderId → SlotEntry → ℕ → JobValue → JobValue → List SlotEntry → Option Lack → Seats C → Seats C → Type 0
  AgainIf (room.Picked k) desk place id e n job new es l a b = (r : Acquired) × AcquiresOnce desk place id r job new a b × (es ≡ e ∷ made_by r) × (l ≡ lack_of r)
  AgainIf room.Unpicked desk place id e n job new es l a b = (b ≡ a) × (new ≡ job) × (es ≡ e ∷ []) × (l ≡ Some (lack.NoSlot n))
  AgainIf room.NoMemory desk place id e n job new es l a b = (b ≡ a) × (new ≡ job) × (es ≡ e ∷ []) × (l ≡ Some lack.NoMemory)

  pub record SoughtAgain (desk : Desk C) (place : ℕ) (id : CoderId) (e : SlotEntry) (n : ℕ) (job new : JobValue) (es : List SlotEntry) (l : Option Lack) (old now : Telling) (a b : Seats C) : Type 0 where
    pub found : Room
    pub looked : Seats C
    pub tells : RoomTells desk found old now a looked
    pub again : AgainIf found desk place id e n job new es l looked b

  abbrev pub AfterFirst : Acquired → Desk C → ℕ → CoderId → JobValue → JobValue → List SlotEntry → Option Lack → Telling → Telling → Seats C → Seats C → Type 0
  AfterFirst (acquired.Granted e) desk place id job new es l old now a b = (b ≡ a) × (now ≡ old) × (new ≡ job) × (es ≡ e ∷ []) × (l ≡ None)
  AfterFirst (acquired.Refused e n) desk place id job new es l old now a b = SoughtAgain desk place id e n job new es l old now a b
  AfterFirst acquired.NoMemory desk place id job new es l old now a b = (b ≡ a) × (now ≡ old) × (new ≡ job) × (es ≡ []) × (l ≡ Some lack.NoMemory)

  -- a job that lacks no box seeks none
  abbrev pub BoxSought : Option CoderId → Desk C → ℕ → JobValue → JobValue → List SlotEntry → Option Lack → Telling → Telling → Seats C → Seats C → Type 0
  BoxSought None desk place job new es l old now a b = (b ≡ a) × (now ≡ old) × (new ≡ job) × (es ≡ []) × (l ≡ None)
  BoxSought (Some id) desk place job new es l old now a b = (r : Acquired) × (middle : JobValue) × (tried : Seats C) × AcquiresOnce desk place id r job middle a tried × AfterFirst r desk place id middle new es l old now tried b

  -- One item of the codec at this place, from its start to its end at a moment that the clock gave behind those for the box.
  pub record ItemWorked (desk : Desk C) (codec place : ℕ) (old now : Telling) (a b : Seats C) : Type 0 where
    pub job : JobValue
    pub begun : Seats C
    pub begins : OneAt codec (Begun job) desk.codecs.items a.codecs.items begun.codecs.items
    pub new : JobValue
    pub acquires : List SlotEntry
    pub lacking : Option Lack
    pub sought : Telling
    pub ready : Seats C
    pub box : BoxSought (missing_id job) desk codec job new acquires lacking old sought begun ready
    pub done : DoneValue
    pub how : WorkEnds lacking new done.ended
    pub moment : ℕ
    pub given : Given sought (moment ∷ []) now
    pub ends : OneAt codec (EndsIn acquires done moment place ready.slots.me.0 b.slots.me.0 ready.pool.me.0 b.pool.me.0) desk.codecs.items ready.codecs.items b.codecs.items

  -- none exactly where no item could start
  abbrev pub ItemTells : Desk C → ℕ → Option ℕ → Telling → Telling → Seats C → Seats C → Type 0
  ItemTells desk codec None old now a b = OneAt codec (λ s u v. BeginTells s None u v) desk.codecs.items a.codecs.items b.codecs.items
  ItemTells desk codec (Some place) old now a b = ItemWorked desk codec place old now a b
