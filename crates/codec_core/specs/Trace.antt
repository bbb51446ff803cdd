-- What is kept of a codec's entries.
use Rattle.std.specs.Prelude.{ℕ, ◌≡◌, ◌≤◌, ◌<◌, ◌+◌, List, [], ◌∷◌, Some, None, get_or, map, drop, length, vec_len, vec_capacity}
use Rattle.std.specs.List.{AllByRecursion}
use Rattle.codec_definitions.specs.declared.unit.Unit as media
use Rattle.codec_model.specs.declared.entry.Entry.{Entry}
use Rattle.codec_model.specs.declared.entry.Shown.{Shown}
use Rattle.codec_model.specs.declared.entry.Event.{Event}
use Rattle.codec_model.specs.declared.entry.PromiseEnd.{PromiseEnd}
use Rattle.codec_model.specs.declared.entry.PromiseState.{PromiseState}
use Rattle.codec_model.specs.declared.entry.PromiseState.TheVariants.{Pending}
use Rattle.codec_model.specs.declared.entry.Task.{Task}
use Rattle.codec_model.specs.declared.entry.Task.TheVariants as task
use Rattle.wc_base.specs.declared.error.DomError.{DomError}
use Rattle.codec_model.specs.Shown.{promise_state, units_shown, ends_of, ends_shown, shown_of}
use Rattle.codec_core.specs.declared.trace.Trace.TheInside.{Inside}

pub record TraceValue : Type 0 where
  pub entries : List Entry
  -- what each of them showed
  pub shown : List Shown
  -- the outputs that were shown and not taken yet, in order
  pub waiting : List media.Unit
  -- so many more have a place
  pub free : ℕ

-- the outputs from an entry on, but for so many
abbrev pub outputs_behind : ℕ → ℕ → List Shown → List media.Unit
outputs_behind entry unit xs = drop unit (units_shown (drop entry xs))

-- the states of the promises with these numbers from 0 on, after these ends; none with a higher number has ended
pub record AreStates (states : List PromiseState) (ends : List PromiseEnd) : Type 0 where
  pub each : (p : ℕ) → get_or states p Pending ≡ promise_state ends p

-- the promises that these events end have lower numbers
abbrev pub EndsBelow : ℕ → List Event → Type 0
EndsBelow n events = AllByRecursion (λ (e : PromiseEnd). e.promise < n) (ends_of events)

abbrev pub rejected : DomError → ℕ → PromiseEnd
rejected error promise = record { promise = promise; error = Some error }

-- the promise that a task resolves which does not close the codec
abbrev pub resolved_by : Task → List PromiseEnd
resolved_by (task.Flushed promise units) = record { promise = promise; error = None } ∷ []
resolved_by _ = []

-- the outputs that a task delivers which does not close the codec
abbrev pub task_outputs : Task → List media.Unit
task_outputs (task.Output units) = units
task_outputs (task.Flushed promise units) = units
task_outputs _ = []

-- Each entry has what it showed and the state of its promise, there are places for more, and no more outputs were taken than
-- were shown.
pub record IsTrace (t : Inside) : Type 0 where
  pub as_many_shown : length t.shown.items ≡ length t.entries.items
  pub as_many_promises : vec_len t.promises ≡ length t.entries.items
  pub entries_fit : length t.entries.items + t.free ≤ t.entries.places
  pub shown_fit : length t.shown.items + t.free ≤ t.shown.places
  pub promises_fit : vec_len t.promises + t.free ≤ vec_capacity t.promises
  pub states : AreStates t.promises.items (ends_shown (map shown_of t.shown.items))
  pub next_entry : t.next_entry ≤ length t.shown.items
  pub next_unit : t.next_unit ≤ length (units_shown (drop t.next_entry (map shown_of t.shown.items)))
