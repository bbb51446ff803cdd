-- What is counted of a codec's entries: reclaims, ends of items whose first acquire was refused, and the moments of both.
use Rattle.std.specs.Prelude.{ℕ, Bool, cond, List, [], ◌∷◌, Option, Some, None}
use Rattle.coder_api.specs.declared.slot.{SlotEntry.SlotEntry, SlotOp.SlotOp}
use Rattle.coder_api.specs.declared.slot.SlotOp.TheVariants as slot
use Rattle.codec_model.specs.declared.entry.Entry.{Entry}
use Rattle.codec_model.specs.declared.entry.Entry.TheVariants as entry
use Rattle.codec_logs.specs.declared.event.Event.{Event}
use Rattle.codec_logs.specs.Logs.{entry_of, acquires_of}

-- the moment of an end, and of a reclaim
abbrev pub moment_of : Entry → Option ℕ
moment_of (entry.Done epoch item moment outcome) = Some moment
moment_of (entry.Reclaim moment) = Some moment
moment_of (entry.Call who call) = None
moment_of (entry.Start epoch item) = None
moment_of entry.Turn = None

-- 1 for a moment that does not fit
abbrev pub unfit_moment : (ℕ → Bool) → Option ℕ → ℕ
unfit_moment fits None = 0
unfit_moment fits (Some m) = cond (fits m) 0 1

-- 1 for an end or a reclaim at a moment that does not fit
abbrev pub untimely : (ℕ → Bool) → Event → ℕ
untimely fits e = unfit_moment fits (moment_of (entry_of e))

-- 1 for a reclaim
abbrev pub reclaim_in : Entry → ℕ
reclaim_in (entry.Reclaim moment) = 1
reclaim_in (entry.Done epoch item moment outcome) = 0
reclaim_in (entry.Call who call) = 0
reclaim_in (entry.Start epoch item) = 0
reclaim_in entry.Turn = 0

abbrev pub reclaims : Event → ℕ
reclaims e = reclaim_in (entry_of e)

-- 1 where the first of these acquires was refused
abbrev pub refusal : SlotOp → ℕ
refusal (slot.Refused id out made) = 1
refusal (slot.Acquire id number) = 0
refusal (slot.Give id number) = 0

abbrev pub first_refusal : List SlotEntry → ℕ
first_refusal [] = 0
first_refusal (e ∷ rest) = refusal e.op

-- 1 for the end of an item whose first acquire was refused
abbrev pub refusal_in : Entry → List SlotEntry → ℕ
refusal_in (entry.Done epoch item moment outcome) es = first_refusal es
refusal_in (entry.Reclaim moment) es = 0
refusal_in (entry.Call who call) es = 0
refusal_in (entry.Start epoch item) es = 0
refusal_in entry.Turn es = 0

abbrev pub refusals : Event → ℕ
refusals e = refusal_in (entry_of e) (acquires_of e.acquires)
