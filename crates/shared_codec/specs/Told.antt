-- What the ends of items tell of the registry: how the acquires went that were made for them.
use Rattle.std.specs.Prelude.{ℕ, ◌≡◌, true, cond, List, [], ◌∷◌, ◌++◌, length, Option, Some, None, is_some}
use Rattle.wc_base.specs.declared.who.By.{By}
use Rattle.wc_base.specs.Views.{Log}
use Rattle.wc_base.specs.declared.seat.View.{View}
use Rattle.wc_config.specs.declared.codec.CoderId.{CoderId}
use Rattle.wc_config.specs.Configs.{coder_id_of}
use Rattle.coder_api.specs.declared.slot.SlotEntry.{SlotEntry}
use Rattle.codec_model.specs.declared.entry.{Opening.Opening, Entry.Entry, Outcome.Outcome}
use Rattle.codec_model.specs.declared.entry.Entry.TheVariants as entry
use Rattle.codec_model.specs.declared.entry.Outcome.TheVariants as outcome
use Rattle.codec_accounts.specs.Registry.{acquire_of}
use Rattle.seat_lock.specs.Logs.{entries_of}
use Rattle.codec_logs.specs.declared.event.Event.{Event}
use Rattle.codec_logs.specs.Logs.{Track, entry_of, acquires_of, box_of}
use Rattle.shared_slots.specs.Steps.{refused}
use Rattle.shared_codec.specs.Dues.{OwedSince}

-- the coder of which the start of the item at work asked for a box, if it asked for one
abbrev pub asked_in : Track → Option CoderId
asked_in x = cond x.holds.waits (coder_id_of x.state.running_given.config) None

-- An item that ended: the coder of which it asked for a box, the acquires that its end tells, and what that says.
pub record Ending : Type 0 where
  pub asked : Option CoderId
  pub acquires : List SlotEntry
  pub outcome : Outcome

abbrev pub ending_of : Option CoderId → List SlotEntry → Outcome → Ending
ending_of asked es o = record { asked = asked; acquires = es; outcome = o }

abbrev pub ending_in : Entry → List SlotEntry → Track → List Ending
ending_in (entry.Done epoch number moment o) es x = ending_of (asked_in x) es o ∷ []
ending_in (entry.Call who call) es x = []
ending_in (entry.Start epoch number) es x = []
ending_in entry.Turn es x = []
ending_in (entry.Reclaim moment) es x = []

-- the item that an event of a codec ends, if it ends one
abbrev pub end_dues : ℕ → Event → Track → List Ending
end_dues k e x = ending_in (entry_of e) (acquires_of e.acquires) x

-- each of these acquires is of a box of this coder
abbrev pub AreAcquires : CoderId → List SlotEntry → Type 0
AreAcquires id [] = Unit {0}
AreAcquires id (a ∷ rest) = (acquire_of a.op ≡ id ∷ []) × AreAcquires id rest

-- these entries stand in this history, in order
abbrev pub StandIn : List SlotEntry → List SlotEntry → Type 0
StandIn [] slots = Unit {0}
StandIn (a ∷ rest) slots = (before : List SlotEntry) × (behind : List SlotEntry) × (slots ≡ before ++ a ∷ behind) × StandIn rest behind

-- the last of these acquires was refused: it is the entry with this number of the registry's history, behind the earlier ones
pub record IsRefusalAt (slots : List SlotEntry) (n : ℕ) (id : CoderId) (es : List SlotEntry) : Type 0 where
  pub cause : By
  pub out : ℕ
  pub all : ℕ
  pub earlier : List SlotEntry
  pub before : List SlotEntry
  pub behind : List SlotEntry
  pub told : es ≡ earlier ++ refused cause id out all ∷ []
  pub is : slots ≡ before ++ refused cause id out all ∷ behind
  pub place : n ≡ length before
  pub stand : StandIn earlier before

-- What an end says, by the registry's history so far: a refusal that stands there; or, but for want of memory, that a box went out
-- if one was asked for.
abbrev pub SaysSo : List SlotEntry → Option CoderId → List SlotEntry → Outcome → Type 0
SaysSo slots None es (outcome.NoSlot n) = ⊥
SaysSo slots None es o = Unit {0}
SaysSo slots (Some id) es (outcome.NoSlot n) = IsRefusalAt slots n id es
SaysSo slots (Some id) es outcome.NoMemory = Unit {0}
SaysSo slots (Some id) es outcome.Refused = is_some (box_of es) ≡ true
SaysSo slots (Some id) es (outcome.Ran units) = is_some (box_of es) ≡ true

-- its acquires are of the coder that was asked for
abbrev pub AreOfAsked : Option CoderId → List SlotEntry → Type 0
AreOfAsked None es = Unit {0}
AreOfAsked (Some id) es = AreAcquires id es

pub record IsTold (slots : List SlotEntry) (e : Ending) : Type 0 where
  pub ids : AreOfAsked e.asked e.acquires
  pub says : SaysSo slots e.asked e.acquires e.outcome

abbrev pub AreTold : List SlotEntry → List Ending → Type 0
AreTold slots [] = Unit {0}
AreTold slots (e ∷ es) = IsTold slots e × AreTold slots es

-- what the items that a seat ended since tell is so by this log of the registry
pub record EndsAreTold (slots : Log SlotEntry) (k : ℕ) (o : Opening) (v w : View Event) : Type 0 where
  pub ends : List Ending
  pub owed : OwedSince end_dues k o v w ends
  pub told : AreTold (entries_of slots) ends
