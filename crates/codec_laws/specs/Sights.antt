-- What of each entry of a history the laws by places speak of. A reader sees it in a report: the entry, and what it shows.
use Rattle.std.specs.Prelude.{ℕ, zero, suc, ◌≡◌, ◌+◌, ◌<◌, Bool, true, false, List, [], ◌∷◌, length, Option, Some, None, option_map, option_and_then, unwrap_or, slice_get, nat_lt, if◌then◌else◌}
use Rattle.wc_base.specs.declared.error.DomError.{DomError}
use Rattle.wc_base.specs.declared.error.DomError.TheVariants as dom
use Rattle.codec_model.specs.declared.entry.Opening.{Opening}
use Rattle.codec_model.specs.declared.entry.Entry.{Entry}
use Rattle.codec_model.specs.declared.entry.Entry.TheVariants as entry
use Rattle.codec_model.specs.declared.entry.Work.{Work}
use Rattle.codec_model.specs.declared.entry.WorkKind.{WorkKind}
use Rattle.codec_model.specs.declared.entry.WorkKind.TheVariants as kind
use Rattle.codec_model.specs.declared.entry.Outcome.TheVariants as outcome
use Rattle.codec_model.specs.declared.entry.Event.{Event}
use Rattle.codec_model.specs.declared.entry.Event.TheVariants as event
use Rattle.codec_model.specs.declared.entry.TurnWord.{TurnWord}
use Rattle.codec_model.specs.declared.entry.TurnWord.TheVariants as turn
use Rattle.codec_model.specs.declared.entry.Shown.{Shown}
use Rattle.codec_model.specs.Control.{kind_of}
use Rattle.codec_model.specs.Replay.{State, message_of, removes, step, opening_state}
use Rattle.codec_model.specs.Shown.{units_in, ends_of, shown_at}
use Rattle.codec_laws.specs.declared.sight.Ran.{Ran}
use Rattle.codec_laws.specs.declared.sight.Sight.{Sight}

-- what a call asks for that is accepted: it shows nothing
abbrev pub asked_for : Entry → List Event → Option Work
asked_for (entry.Call who x) [] = message_of x
asked_for e xs = None

abbrev pub is_refused : List Event → Bool
is_refused (event.Refusal error ∷ xs) = true
is_refused xs = false

-- a reset or close that is not refused
abbrev pub aborts : List Event → Option DomError
aborts xs = if is_refused xs then None else Some dom.Abort

abbrev pub closed_by : Option TurnWord → Option DomError
closed_by (Some (turn.Close error)) = Some error
closed_by word = None

-- the error with which a removal rejects what is pending: an accepted reset or close, a reclaim, or the turn of a close
abbrev pub rejects_with : Entry → Shown → Option DomError
rejects_with (entry.Call who x) sh = if removes x then aborts sh.events else None
rejects_with entry.Turn sh = closed_by sh.turn
rejects_with (entry.Reclaim moment) sh = Some dom.QuotaExceeded
rejects_with e sh = None

abbrev pub ran : Entry → Option Ran
ran (entry.Done epoch item moment (outcome.Ran units)) = Some (record { epoch = epoch; item = item; units = units })
ran e = None

abbrev pub dequeues : List Event → Bool
dequeues [] = false
dequeues (event.Dequeue ∷ xs) = true
dequeues (x ∷ xs) = dequeues xs

-- an entry with what it shows, and the size after it
abbrev pub sight_of : Entry → Shown → ℕ → Sight
sight_of e x size = record { asks = option_map kind_of (asked_for e x.events); removes = rejects_with e x; ran = ran e; outputs = length (units_in x.events); ends = ends_of x.events; dequeues = dequeues x.events; size = size }

abbrev pub sights_from : List Entry → State → List Sight
sights_from [] s = []
sights_from (e ∷ es) s = unwrap_or (option_map (λ t. sight_of e (shown_at e s) t.control.size ∷ sights_from es t) (step e s)) []

-- of each entry of a history
abbrev pub sights : Opening → List Entry → List Sight
sights o h = sights_from h (opening_state o)

abbrev pub is_coded : Option WorkKind → Bool
is_coded (Some kind.Coded) = true
is_coded k = false

-- the size falls from this number on: an accepted coded call raises it by 1, and the entry's steps lower it
abbrev pub falls : ℕ → Sight → Bool
falls before x = nat_lt x.size (before + (if is_coded x.asks then 1 else 0))

abbrev pub falls_from : ℕ → List Sight → ℕ → Bool
falls_from before [] k = false
falls_from before (x ∷ xs) zero = falls before x
falls_from before (x ∷ xs) (suc k) = falls_from x.size xs k

-- the size falls at a place
abbrev pub falls_at : List Sight → ℕ → Bool
falls_at xs k = falls_from 0 xs k

-- a turn of `dequeue` stands at a place
abbrev pub dequeues_at : List Sight → ℕ → Bool
dequeues_at xs k = unwrap_or (option_map (λ x. x.dequeues) (slice_get xs k)) false

-- the error of the removal that stands at a place
abbrev pub removes_at : List Sight → ℕ → Option DomError
removes_at xs k = option_and_then (λ x. x.removes) (slice_get xs k)

-- what the call at a place asks for, if it is accepted
abbrev pub asks_at : List Sight → ℕ → Option WorkKind
asks_at xs k = option_and_then (λ x. x.asks) (slice_get xs k)

-- no removal stands between two places
abbrev pub NoneRemoves : List Sight → ℕ → ℕ → Type 0
NoneRemoves xs from to = (k : ℕ) → from < k → k < to → removes_at xs k ≡ None

abbrev pub is_output : Event → Bool
is_output (event.Output number unit) = true
is_output x = false

abbrev pub listed : {X : Type 0} → Option X → List X
listed None = []
listed (Some x) = x ∷ []
