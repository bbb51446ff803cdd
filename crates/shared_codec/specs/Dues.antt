-- What the entries of a codec call for in its registry and in its pool, and which calls of callers they are.
use Rattle.std.specs.Prelude.{ℕ, ◌≡◌, Bool, true, false, cond, List, [], ◌∷◌, ◌++◌, map, Option, Some, None}
use Rattle.wc_base.specs.declared.who.By.TheVariants as by
use Rattle.wc_base.specs.declared.who.Who.{Who}
use Rattle.wc_base.specs.Views.{Log}
use Rattle.wc_base.specs.declared.seat.Passage.{Passage}
use Rattle.wc_base.specs.declared.seat.Passage.TheVariants.{Made, Look}
use Rattle.wc_base.specs.declared.seat.View.{View}
use Rattle.wc_config.specs.declared.codec.CoderId.{CoderId}
use Rattle.coder_api.specs.Lent.{Lent}
use Rattle.coder_api.specs.declared.slot.SlotEntry.{SlotEntry}
use Rattle.coder_api.specs.declared.slot.SlotOp.TheVariants as slot
use Rattle.slot_registry.specs.Slots.{is_later}
use Rattle.codec_model.specs.declared.entry.Opening.{Opening}
use Rattle.wc_pool.specs.declared.entry.PoolEntry.{PoolEntry}
use Rattle.wc_pool.specs.declared.entry.PoolOp.{PoolOp}
use Rattle.wc_pool.specs.declared.entry.PoolOp.TheVariants as pool
use Rattle.codec_model.specs.declared.entry.{Call.Call, Entry.Entry, Pair.Pair}
use Rattle.codec_model.specs.declared.entry.Entry.TheVariants as entry
use Rattle.codec_model.specs.Held.{adds_held, lets_go}
use Rattle.codec_accounts.specs.Boxes.{lets_go_by}
use Rattle.codec_accounts.specs.Registry.{Box}
use Rattle.seat_lock.specs.Own.{is_in}
use Rattle.codec_logs.specs.declared.event.Event.{Event}
use Rattle.codec_logs.specs.Logs.{Track, entry_of, act_in, acquires_of, box_of, track, track_by}
use Rattle.shared_slots.specs.Steps.{came_back}

-- a box comes back by the entry of the codec k at this place
abbrev pub give_by : ℕ → ℕ → ℕ × Box → SlotEntry
give_by k place b = record { by = by.Codec k place; op = slot.Give b.1.id b.1.number }

-- What an event of the codec k calls for, by what its log says: the acquires that it tells, and the return of the box that it
-- lets go by the accounts.
abbrev pub slot_dues : ℕ → Event → Track → List SlotEntry
slot_dues k e x = acquires_of e.acquires ++ map (give_by k x.holds.place) (lets_go_by (act_in e x) (box_of (acquires_of e.acquires)) x.holds)

-- clones with these pairs, and ends of these, each by the entry at this place; an end does not say whether it was the last
abbrev pub clones_at : ℕ → List Pair → List (ℕ × PoolOp)
clones_at place pairs = map (λ p. (place, pool.Clone p.resource p.reference)) pairs

abbrev pub ends_at : ℕ → List Pair → List (ℕ × PoolOp)
ends_at place pairs = map (λ p. (place, pool.End p.resource p.reference false)) pairs

-- What an event of a codec calls for in its pool: the clone that its entry brings, and an end of each reference that it lets go.
abbrev pub media_dues : ℕ → Event → Track → List (ℕ × PoolOp)
media_dues k e x = clones_at x.holds.place (adds_held (entry_of e)) ++ ends_at x.holds.place (lets_go (entry_of e) x.state)

-- a call of a caller, in the history of a codec
pub record Called : Type 0 where
  pub codec : ℕ
  pub place : ℕ
  pub who : Who
  pub call : Call

-- the call of a caller that an entry of the codec k at this place is, if it is one
abbrev pub call_in : ℕ → ℕ → Entry → List Called
call_in k place (entry.Call who x) = record { codec = k; place = place; who = who; call = x } ∷ []
call_in k place (entry.Start epoch item) = []
call_in k place (entry.Done epoch item moment outcome) = []
call_in k place entry.Turn = []
call_in k place (entry.Reclaim moment) = []

-- The call that an event is: what its entry names of callers.
abbrev pub call_dues : ℕ → Event → Track → List Called
call_dues k e x = call_in k x.holds.place (entry_of e)

-- the entry of the pool does this by the entry of the codec k at this place
abbrev pub DoesFor : ℕ → ℕ → PoolOp → PoolEntry → Type 0
DoesFor k place (pool.Make r f) e = ⊥
DoesFor k place (pool.Clone r f) e = e ≡ record { by = by.Codec k place; op = pool.Clone r f }
DoesFor k place (pool.End r f any) e = (last : Bool) × (e ≡ record { by = by.Codec k place; op = pool.End r f last })

-- these entries of the pool do this, in order, by the codec k
abbrev pub DoFor : ℕ → List (ℕ × PoolOp) → List PoolEntry → Type 0
DoFor k [] [] = Unit {0}
DoFor k (p ∷ ps) (e ∷ es) = DoesFor k p.0 p.1 e × DoFor k ps es
DoFor k _ _ = ⊥

abbrev pub dues_in : {D : Type 0} → (ℕ → Event → Track → List D) → ℕ → Passage Event → Track → List D
dues_in due k (Made e) x = due k e x
dues_in due k Look x = []

-- what the passages with these numbers call for
abbrev pub dues_by : {D : Type 0} → (ℕ → Event → Track → List D) → ℕ → List ℕ → Track → Log Event → List D
dues_by due k numbers x [] = []
dues_by due k numbers x (p ∷ ps) = cond (is_in p.0 numbers) (dues_in due k p.1 x) [] ++ dues_by due k numbers (track_by p.0 p.1 x) ps

-- What a seat of the codec k made since calls for these entries, in order, and for no others.
pub record OwedSince {D : Type 0} (due : ℕ → Event → Track → List D) (k : ℕ) (o : Opening) (v w : View Event) (es : List D) : Type 0 where
  pub number : w.number ≡ v.number
  pub numbers : w.numbers ≡ v.numbers
  pub parts : w.parts ≡ v.parts
  pub more : Log Event
  pub longer : w.log ≡ v.log ++ more
  pub owed : dues_by due k v.numbers (track o v.log) more ≡ es

-- the return of a box, if there is one
abbrev pub gives_of : ℕ → ℕ → Option Lent → List SlotEntry
gives_of k place None = []
gives_of k place (Some lent) = came_back (by.Codec k place) lent ∷ []

-- the same at a start that lacks a box
abbrev pub given_if : ℕ → Option CoderId → ℕ → Option Lent → List SlotEntry
given_if k None place coder = []
given_if k (Some id) place coder = gives_of k place coder

-- the box was acquired by an entry of the codec k before this place
abbrev pub IsLater : ℕ → ℕ → Option Lent → Type 0
IsLater k at None = Unit {0}
IsLater k at (Some lent) = is_later lent.by (by.Codec k at) ≡ true
