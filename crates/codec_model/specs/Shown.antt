-- What the entries of a history show: exceptions, outputs, promise ends, dequeue events and error calls.
use Rattle.std.specs.Prelude.{ℕ, ◌≡◌, ◌+◌, Bool, true, false, List, [], ◌∷◌, ◌++◌, Option, Some, None, map, option_map, unwrap_or, ◌==◌, if◌then◌else◌}
use Rattle.std.specs.List.{flat_map}
use Rattle.wc_base.specs.declared.error.DomError.{DomError}
use Rattle.wc_base.specs.declared.error.DomError.TheVariants as dom
use Rattle.codec_definitions.specs.declared.unit.Unit as media
use Rattle.codec_model.specs.declared.entry.Opening.{Opening}
use Rattle.codec_model.specs.declared.entry.PromiseEnd.{PromiseEnd}
use Rattle.codec_model.specs.declared.entry.PromiseState.{PromiseState}
use Rattle.codec_model.specs.declared.entry.PromiseState.TheVariants as promise
use Rattle.codec_model.specs.declared.entry.Event.{Event}
use Rattle.codec_model.specs.declared.entry.Event.TheVariants.{Refusal, Output, Resolve, Reject, Dequeue, ErrorCall}
use Rattle.codec_model.specs.declared.entry.TurnWord.{TurnWord}
use Rattle.codec_model.specs.declared.entry.TurnWord.TheVariants as turn
use Rattle.codec_model.specs.declared.entry.Shown.{Shown}
use Rattle.codec_model.specs.declared.entry.Showing.{Showing}
use Rattle.codec_model.specs.declared.entry.Showing.TheVariants as showing
use Rattle.codec_model.specs.declared.entry.Answer.{Answer}
use Rattle.codec_model.specs.declared.entry.Task.{Task}
use Rattle.codec_model.specs.declared.entry.Task.TheVariants as task
use Rattle.codec_model.specs.declared.entry.Call.{Call}
use Rattle.codec_model.specs.declared.entry.Call.TheVariants as call
use Rattle.codec_model.specs.declared.entry.Entry.{Entry}
use Rattle.codec_model.specs.declared.entry.Entry.TheVariants as entry
use Rattle.wc_config.specs.declared.config.AudioDecoderConfig.{AudioDecoderConfig}
use Rattle.codec_model.specs.Control.{Control, carried}
use Rattle.codec_model.specs.Replay.{State, step, opening_state, call_error}

-- The exception of a call with this error, if it has one. A flush has none: its promise is rejected.
abbrev pub exception_of : Call → Option DomError → Option DomError
exception_of call.Flush error = None
exception_of _ error = error

-- the promise that a call gives: a flush's is named by its entry's place
abbrev pub promise_of : Call → ℕ → Option ℕ
promise_of call.Flush place = Some place
promise_of _ place = None

-- what a refused call shows: its exception, or that its promise is rejected, if it gives one
abbrev pub refused_shows : Option ℕ → DomError → List Event
refused_shows None error = Refusal error ∷ []
refused_shows (Some promise) error = Reject promise error ∷ []

-- the pending promises, each rejected
abbrev pub rejections : DomError → List ℕ → List Event
rejections error [] = []
rejections error (p ∷ ps) = Reject p error ∷ rejections error ps

-- a codec that closes with an error calls the error callback with it
abbrev pub close_shows : DomError → List ℕ → List Event
close_shows error pending = rejections error pending ++ ErrorCall error ∷ []

-- what a reset or close shows that is not refused
abbrev pub removal_shows : List ℕ → List Event
removal_shows pending = rejections dom.Abort pending

abbrev pub accepted_shows : Call → List ℕ → List Event
accepted_shows call.Reset pending = removal_shows pending
accepted_shows call.Close pending = removal_shows pending
accepted_shows _ pending = []

-- what a call at this place shows, refused with this error or made, with these promises pending
abbrev pub call_shows : Call → ℕ → List ℕ → Option DomError → List Event
call_shows x place pending None = accepted_shows x pending
call_shows x place pending (Some error) = refused_shows (promise_of x place) error

-- what a reclaim shows
abbrev pub reclaim_shows : List ℕ → List Event
reclaim_shows pending = close_shows dom.QuotaExceeded pending

abbrev pub outputs_from : ℕ → List media.Unit → List Event
outputs_from number [] = []
outputs_from number (u ∷ us) = Output number u ∷ outputs_from (number + 1) us

-- what a task shows, after so many outputs and with these promises pending
abbrev pub task_shows : Task → ℕ → List ℕ → List Event
task_shows task.Unblock first pending = []
task_shows task.Process first pending = []
task_shows task.Desaturate first pending = []
task_shows (task.Output units) first pending = outputs_from first units
task_shows (task.Flushed promise units) first pending = outputs_from first units ++ Resolve promise ∷ []
task_shows task.Dequeue first pending = Dequeue ∷ []
task_shows (task.Close error) first pending = close_shows error pending

-- a task, its outputs as they are shown where this config is active
abbrev pub task_carried : Option AudioDecoderConfig → Task → Task
task_carried active (task.Output units) = task.Output (carried active units)
task_carried active (task.Flushed promise units) = task.Flushed promise (carried active units)
task_carried active t = t

-- what the turn of the front task shows
abbrev pub turn_shows : List Task → Control → List Event
turn_shows [] c = []
turn_shows (t ∷ ts) c = task_shows (task_carried c.active t) c.shown c.pending

abbrev pub shows : Entry → State → List Event
shows (entry.Call who x) s = call_shows x s.control.place s.control.pending (call_error x s.control)
shows (entry.Start epoch item) s = []
shows (entry.Done epoch item moment o) s = []
shows entry.Turn s = turn_shows s.control.tasks s.control
shows (entry.Reclaim moment) s = reclaim_shows s.control.pending

-- what entries show after a state, each event with its entry's place
abbrev pub shown_from : List Entry → State → List (ℕ × Event)
shown_from [] s = []
shown_from (e ∷ es) s = map (λ x. (s.control.place, x)) (shows e s) ++ unwrap_or (option_map (shown_from es) (step e s)) []

abbrev pub shown : Opening → List Entry → List (ℕ × Event)
shown o history = shown_from history (opening_state o)

-- the unit that an event shows, if it shows one
abbrev pub event_units : Event → List media.Unit
event_units (Output number unit) = unit ∷ []
event_units _ = []

abbrev pub units_in : List Event → List media.Unit
units_in [] = []
units_in (x ∷ xs) = event_units x ++ units_in xs

-- the outputs of what a history shows, in order
abbrev pub outputs_of : List (ℕ × Event) → List media.Unit
outputs_of [] = []
outputs_of (x ∷ xs) = event_units x.1 ++ outputs_of xs

-- the outputs of what entries showed, in order
abbrev pub units_shown : List Shown → List media.Unit
units_shown xs = flat_map (λ x. units_in x.events) xs

-- the promise end that an event shows, if it shows one
abbrev pub event_ends : Event → List PromiseEnd
event_ends (Resolve promise) = record { promise = promise; error = None } ∷ []
event_ends (Reject promise error) = record { promise = promise; error = Some error } ∷ []
event_ends _ = []

-- the promise ends of what a history shows, in order
abbrev pub ends_in : List (ℕ × Event) → List PromiseEnd
ends_in [] = []
ends_in (x ∷ xs) = event_ends x.1 ++ ends_in xs

abbrev pub promise_ended : Option DomError → PromiseState
promise_ended None = promise.Resolved
promise_ended (Some error) = promise.Rejected error

-- the promise ends among these events, in order
abbrev pub ends_of : List Event → List PromiseEnd
ends_of [] = []
ends_of (x ∷ xs) = event_ends x ++ ends_of xs

-- the promise ends of what entries showed, in order
abbrev pub ends_shown : List Shown → List PromiseEnd
ends_shown [] = []
ends_shown (x ∷ xs) = ends_of x.events ++ ends_shown xs

-- how a promise stands after these ends: by the first end that is its own
abbrev pub promise_state : List PromiseEnd → ℕ → PromiseState
promise_state [] p = promise.Pending
promise_state (e ∷ es) p = if e.promise == p then promise_ended e.error else promise_state es p

abbrev pub word_of_task : Task → TurnWord
word_of_task task.Unblock = turn.Unblock
word_of_task task.Process = turn.Process
word_of_task task.Desaturate = turn.Desaturate
word_of_task (task.Output units) = turn.Output
word_of_task (task.Flushed promise units) = turn.Flushed
word_of_task task.Dequeue = turn.Dequeue
word_of_task (task.Close error) = turn.Close error

-- the task that a turn runs, if there is one
abbrev pub turn_word : List Task → Option TurnWord
turn_word [] = None
turn_word (t ∷ ts) = Some (word_of_task t)

-- the turn that an entry is, if it is one
abbrev pub word_at : Entry → State → Option TurnWord
word_at entry.Turn s = turn_word s.control.tasks
word_at _ s = None

abbrev pub shown_at : Entry → State → Shown
shown_at e s = record { turn = word_at e s; events = shows e s }

-- what each entry shows, one after another after a state
abbrev pub each_shown_from : List Entry → State → List Shown
each_shown_from [] s = []
each_shown_from (e ∷ es) s = shown_at e s ∷ unwrap_or (option_map (each_shown_from es) (step e s)) []

abbrev pub each_shown : Opening → List Entry → List Shown
each_shown o history = each_shown_from history (opening_state o)

-- what is kept of an entry's showing stands for all that it shows
abbrev pub shown_of : Showing → Shown
shown_of showing.Nothing = record { turn = None; events = [] }
shown_of (showing.Refusal error) = record { turn = None; events = refused_shows None error }
shown_of (showing.Rejection promise error) = record { turn = None; events = refused_shows (Some promise) error }
shown_of (showing.Removal promises) = record { turn = None; events = removal_shows promises }
shown_of (showing.Reclaim promises) = record { turn = None; events = reclaim_shows promises }
shown_of (showing.Turn t outputs) = record { turn = Some (word_of_task t); events = task_shows t outputs [] }
shown_of (showing.Close error promises) = record { turn = Some (turn.Close error); events = close_shows error promises }

-- the turn that closed the codec
abbrev pub closes : Showing → Bool
closes (showing.Close error promises) = true
closes _ = false

-- The answer of a step: its entry's place, its exception, if it has one, and what it shows.
pub record IsAnswer (place : ℕ) (exception : Option DomError) (shown : Shown) (a : Answer) : Type 0 where
  pub is_place : a.place ≡ place
  pub is_exception : a.exception ≡ exception
  pub is_shown : shown_of a.showing ≡ shown
