-- What the logs of all codecs of a run call for in the registry, and that its history has this.
use Rattle.std.specs.Prelude.{ℕ, suc, ◌≡◌, ◌<◌, true, cond, List, [], ◌∷◌, ◌++◌, length, map}
use Rattle.std.specs.List.{flat_map}
use Rattle.wc_base.specs.Views.{Log}
use Rattle.wc_base.specs.declared.who.By.{By}
use Rattle.wc_base.specs.declared.who.By.TheVariants as by
use Rattle.wc_config.specs.declared.codec.CoderId.{CoderId}
use Rattle.coder_api.specs.declared.slot.SlotEntry.{SlotEntry}
use Rattle.slot_registry.specs.Slots.{is_legal_slots}
use Rattle.codec_model.specs.declared.entry.Opening.{Opening}
use Rattle.codec_model.specs.declared.entry.Entry.{Entry}
use Rattle.codec_accounts.specs.Bags.{SameBag}
use Rattle.codec_accounts.specs.Owed.{at}
use Rattle.codec_accounts.specs.Registry.{is_cause}
use Rattle.codec_logs.specs.declared.event.Event.{Event}
use Rattle.codec_logs.specs.Logs.{opening_track, history_of, IsLog}
use Rattle.shared_codec.specs.Dues.{slot_dues}
use Rattle.shared_codec.specs.Sums.{all_dues}
use Rattle.run_laws.specs.Told.{LogTellsEnds}

-- the codecs' histories
abbrev pub histories_of : List (Log Event) → List (List Entry)
histories_of logs = map history_of logs

-- what the log of a codec calls for in the registry
abbrev pub slots_of : (ℕ → Opening) → ℕ → Log Event → List SlotEntry
slots_of opening k log = all_dues slot_dues k (opening_track (opening k)) log

-- what the logs of all codecs call for there, from the codec with this number on
abbrev pub all_slots : (ℕ → Opening) → ℕ → List (Log Event) → List SlotEntry
all_slots opening k [] = []
all_slots opening k (l ∷ logs) = slots_of opening k l ++ all_slots opening (suc k) logs

-- the entries by a cause, in order
abbrev pub by_cause : By → List SlotEntry → List SlotEntry
by_cause cause slots = flat_map (λ e. cond (is_cause cause e.by) (e ∷ []) []) slots

-- The registry can have this history. It has what the codecs' logs call for, each entry as often, in any order, and those by one
-- entry of a codec in the order in which that one's log calls for them; and the ends of items tell how their acquires went.
pub record RegistryIsPaid (made : List CoderId) (opening : ℕ → Opening) (logs : List (Log Event)) (slots : List SlotEntry) : Type 0 where
  pub legal : is_legal_slots made slots ≡ true
  pub logs_are : (k : ℕ) → k < length logs → IsLog k (opening k) (at k logs)
  pub called : SameBag (all_slots opening 0 logs) slots
  pub causes : (k place : ℕ) → k < length logs → by_cause (by.Codec k place) (slots_of opening k (at k logs)) ≡ by_cause (by.Codec k place) slots
  pub told : (k : ℕ) → k < length logs → LogTellsEnds k (opening k) slots (at k logs)
