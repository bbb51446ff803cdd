-- What the passages of codecs' locks tell of the acquires of their items.
use Rattle.std.specs.Prelude.{ℕ, ◌≡◌, Bool, true, List, [], ◌∷◌, ◌++◌, length, map, Option, Some, None}
use Rattle.wc_base.specs.Views.{Log}
use Rattle.wc_base.specs.declared.seat.Passage.TheVariants.{Made, Look}
use Rattle.wc_base.specs.declared.who.By.{By}
use Rattle.wc_base.specs.declared.who.By.TheVariants as by
use Rattle.wc_config.specs.declared.codec.CoderId.{CoderId}
use Rattle.coder_api.specs.declared.slot.SlotEntry.{SlotEntry}
use Rattle.coder_api.specs.declared.slot.SlotOp.{SlotOp}
use Rattle.coder_api.specs.declared.slot.SlotOp.TheVariants as slot
use Rattle.codec_model.specs.declared.entry.Opening.{Opening}
use Rattle.codec_model.specs.declared.entry.Outcome.{Outcome}
use Rattle.codec_model.specs.declared.entry.Outcome.TheVariants as outcome
use Rattle.codec_model.specs.declared.entry.Entry.{Entry}
use Rattle.codec_model.specs.declared.entry.Entry.TheVariants as entry
use Rattle.codec_accounts.specs.Boxes.{Act, Asks, Begins, Ends, Removes, Other}
use Rattle.seat_lock.specs.Own.{is_in}
use Rattle.codec_logs.specs.declared.event.Event.{Event}
use Rattle.codec_logs.specs.Logs.{Track, entry_of, acquires_of, opening_track, act_in, track_made}
use Rattle.run_laws.specs.Tries.{tries_by, MayTry, IsGranted}

-- A refusal that was told: the entry with this number of the registry's history, behind which its cause acquires no more.
pub record IsRefusalTold (slots : List SlotEntry) (n : ℕ) (cause : By) (id : CoderId) (told : List SlotOp) : Type 0 where
  pub out : ℕ
  pub made : ℕ
  pub before : List SlotEntry
  pub behind : List SlotEntry
  pub is : slots ≡ before ++ record { by = cause; op = slot.Refused id out made } ∷ behind
  pub place : n ≡ length before
  pub last : tries_by cause before ++ slot.Refused id out made ∷ [] ≡ told

-- What an end says, by the acquires that it tells and by the registry's history so far.
abbrev pub EndIsTold : List SlotEntry → By → Option CoderId → List SlotOp → Outcome → Type 0
EndIsTold slots cause None told (outcome.NoSlot n) = ⊥
EndIsTold slots cause None told o = Unit {0}
EndIsTold slots cause (Some id) told (outcome.NoSlot n) = IsRefusalTold slots n cause id told
EndIsTold slots cause (Some id) told outcome.NoMemory = Unit {0}
EndIsTold slots cause (Some id) told outcome.Refused = IsGranted id told
EndIsTold slots cause (Some id) told (outcome.Ran units) = IsGranted id told

-- the item at work: the place of its start, and the coder of which that asked for a box, if it asked for one
pub record Started : Type 0 where
  pub place : ℕ
  pub asked : Option CoderId

abbrev pub nothing_started : Started
nothing_started = record { place = 0; asked = None }

abbrev pub started_by : Act → ℕ → Started → Started
started_by (Asks id) place s = record { place = place; asked = Some id }
started_by Begins place s = record { place = place; asked = None }
started_by Ends place s = s
started_by Removes place s = s
started_by Other place s = s

abbrev pub ops_of : Event → List SlotOp
ops_of e = map (λ a. a.op) (acquires_of e.acquires)

-- what an entry says that ends an item
abbrev pub EntryIsTold : List SlotEntry → By → Option CoderId → List SlotOp → Entry → Type 0
EntryIsTold slots cause asked told (entry.Done epoch number moment o) = MayTry asked told × EndIsTold slots cause asked told o
EntryIsTold slots cause asked told _ = Unit {0}

-- the passages of the seats that pass this test tell of the acquires of the items that they end
abbrev pub EndsAreTold : ℕ → List SlotEntry → (ℕ → Bool) → Started → Track → Log Event → Type 0
EndsAreTold k slots mine s x [] = Unit {0}
EndsAreTold k slots mine s x ((n, Look) ∷ ps) = EndsAreTold k slots mine s x ps
EndsAreTold k slots mine s x ((n, Made e) ∷ ps) =
    (mine n ≡ true → EntryIsTold slots (by.Codec k s.place) s.asked (ops_of e) (entry_of e))
    × EndsAreTold k slots mine (started_by (act_in e x) x.holds.place s) (track_made n e x) ps

-- so do those of a seat with these numbers, and of the seats that it took in
abbrev pub SeatTellsEnds : ℕ → Opening → List SlotEntry → List ℕ → Log Event → Type 0
SeatTellsEnds k o slots numbers log = EndsAreTold k slots (λ n. is_in n numbers) nothing_started (opening_track o) log

-- so do all passages of a log
abbrev pub LogTellsEnds : ℕ → Opening → List SlotEntry → Log Event → Type 0
LogTellsEnds k o slots log = EndsAreTold k slots (λ n. true) nothing_started (opening_track o) log
