-- How many codecs of a run were reclaimed, and when (our choice).
use Rattle.std.specs.Prelude.{ℕ, suc, ◌+◌, ◌≡◌, ◌≤◌, ◌&&◌, Bool, true, false, cond, List, [], ◌∷◌, slice_get, Some}
use Rattle.std.specs.List.{count_by, sum_by}
use Rattle.wc_base.specs.Views.{Log}
use Rattle.wc_base.specs.declared.who.By.TheVariants as by
use Rattle.coder_api.specs.declared.slot.SlotEntry.{SlotEntry}
use Rattle.coder_api.specs.declared.slot.SlotOp.{SlotOp}
use Rattle.coder_api.specs.declared.slot.SlotOp.TheVariants as slot
use Rattle.codec_model.specs.declared.entry.Entry.{Entry}
use Rattle.codec_model.specs.declared.entry.Entry.TheVariants as entry
use Rattle.codec_accounts.specs.Owed.{at}
use Rattle.seat_lock.specs.Logs.{entries_of}
use Rattle.codec_logs.specs.declared.event.Event.{Event}
use Rattle.shared_codec.specs.Tallies.{moment_of}
use Rattle.run_laws.specs.Tries.{tries_by}

-- ---- in the histories of a run

abbrev pub is_reclaim : Entry → Bool
is_reclaim (entry.Reclaim moment) = true
is_reclaim _ = false

abbrev pub is_start : Entry → Bool
is_start (entry.Start epoch number) = true
is_start _ = false

-- the first of these acquires was refused
abbrev pub first_refused : List SlotOp → Bool
first_refused (slot.Refused id out made ∷ rest) = true
first_refused _ = false

-- how many reclaims all codecs have
abbrev pub all_reclaims : List (List Entry) → ℕ
all_reclaims codecs = sum_by (count_by is_reclaim) codecs

-- the entry of the codec k at this place is a start whose first acquire was refused, by the registry's history
abbrev pub is_refused_start : List SlotEntry → ℕ → ℕ → Entry → Bool
is_refused_start slots k place e = is_start e && first_refused (tries_by (by.Codec k place) slots)

-- how many of these entries are such, of which the first is at this place
abbrev pub refused_starts : List SlotEntry → ℕ → ℕ → List Entry → ℕ
refused_starts slots k place [] = 0
refused_starts slots k place (e ∷ es) = cond (is_refused_start slots k place e) 1 0 + refused_starts slots k (suc place) es

-- the same of all codecs, from the codec with this number on
abbrev pub all_refused : List SlotEntry → ℕ → List (List Entry) → ℕ
all_refused slots k [] = 0
all_refused slots k (h ∷ hs) = refused_starts slots k 0 h + all_refused slots (suc k) hs

-- There are at most as many reclaims as starts whose first acquire was refused.
abbrev pub HasFewReclaims : List SlotEntry → List (List Entry) → Type 0
HasFewReclaims slots codecs = all_reclaims codecs ≤ all_refused slots 0 codecs

-- Each moment of an entry is one that fits.
abbrev pub IsTimely : (ℕ → Bool) → List (List Entry) → Type 0
IsTimely fits codecs = (k place moment : ℕ) (e : Entry) → slice_get (at k codecs) place ≡ Some e → moment_of e ≡ Some moment → fits moment ≡ true

-- ---- in the logs of a run

-- what all events count for together
abbrev pub in_logs : (Event → ℕ) → List (Log Event) → ℕ
in_logs counts logs = sum_by (λ log. sum_by counts (entries_of log)) logs
