-- Histories that follow: each entry is legal after those before it, where each end of an item is taken as it stands (our
-- choice). What the outputs hold is left open.
use Rattle.std.specs.Prelude.{ℕ, ◌≡◌, ◌==◌, ◌&&◌, true, false, pos, List, [], ◌∷◌, replicate, Option, Some, None, is_some, option_map, option_and_then, unwrap_or, if◌then◌else◌}
use Rattle.wc_config.specs.declared.config.Config.{Config}
use Rattle.wc_config.specs.Configs.{is_supported}
use Rattle.codec_definitions.specs.declared.unit.Unit as media
use Rattle.codec_definitions.specs.declared.unit.Unit.TheVariants as unit
use Rattle.wc_config.specs.declared.kind.Kind.{Kind}
use Rattle.codec_model.specs.declared.entry.Opening.{Opening}
use Rattle.codec_model.specs.declared.entry.WorkKind.{WorkKind}
use Rattle.codec_model.specs.declared.entry.WorkKind.TheVariants as kind
use Rattle.codec_model.specs.declared.entry.Running.{Running}
use Rattle.codec_model.specs.declared.entry.Ended.{Ended}
use Rattle.codec_model.specs.declared.entry.Ended.TheVariants as ended
use Rattle.codec_model.specs.declared.entry.Outcome.{Outcome}
use Rattle.codec_model.specs.declared.entry.Outcome.TheVariants as outcome
use Rattle.codec_model.specs.declared.entry.Entry.{Entry}
use Rattle.codec_model.specs.declared.entry.Entry.TheVariants as entry
use Rattle.codec_model.specs.declared.entry.Event.{Event}
use Rattle.codec_model.specs.declared.entry.Event.TheVariants as event
use Rattle.codec_model.specs.declared.entry.Shown.{Shown}
use Rattle.codec_follow.specs.declared.known.Known.{Known}
use Rattle.codec_follow.specs.Outputs.{empty_output}
use Rattle.codec_model.specs.Replay.{State, Given, opening_state, done_ended, step}
use Rattle.codec_model.specs.Shown.{shows, word_at}

-- the place of an output whose content the history does not tell
abbrev pub blank : media.Unit
blank = unit.Coded (record { key = false; timestamp = pos 0; duration = None; bytes = [] }) None

abbrev pub blanks : ℕ → List media.Unit
blanks n = replicate n blank

-- an item that ran gave so many units: a configure item none
abbrev pub ran_as : WorkKind → ℕ → Option Ended
ran_as kind.Configure units = if units == 0 then Some (ended.Ran []) else None
ran_as kind.Coded units = Some (ended.Ran (blanks units))
ran_as kind.Flush units = Some (ended.Ran (blanks units))

-- what the ends of items ask of the config that was last given
abbrev pub known_of : Config → Known
known_of c = record { supported = is_supported c }

-- a flush item is never refused
abbrev pub refused_as : WorkKind → Option Ended
refused_as kind.Configure = Some ended.Refused
refused_as kind.Coded = Some ended.Refused
refused_as kind.Flush = None

-- only a configure item is refused a coder, where its config is supported
abbrev pub no_slot_as : WorkKind → Known → ℕ → Option Ended
no_slot_as kind.Configure known e = if known.supported then Some (ended.NoSlot e) else None
no_slot_as kind.Coded known e = None
no_slot_as kind.Flush known e = None

-- how an item of this kind ends with this outcome as it stands; none where that does not follow
abbrev pub ended_by : WorkKind → Known → Outcome → Option Ended
ended_by k known (outcome.Ran units) = ran_as k units
ended_by k known outcome.Refused = refused_as k
ended_by k known (outcome.NoSlot e) = no_slot_as k known e
ended_by k known outcome.NoMemory = Some ended.NoMemory

abbrev pub ended_as : WorkKind → Given → Outcome → Option Ended
ended_as k g o = ended_by k (known_of g.config) o

abbrev pub follow_done : Option Running → ℕ → ℕ → ℕ → Outcome → State → Option State
follow_done None epoch item moment o s = None
follow_done (Some r) epoch item moment o s =
    if (r.epoch == epoch) && (r.number == item) then done_ended r (ended_as r.kind s.running_given o) moment s else None

-- One entry after a state; none where it does not follow there.
abbrev pub follow_step : Entry → State → Option State
follow_step (entry.Done epoch item moment o) s = follow_done s.control.running epoch item moment o s
follow_step e s = step e s

abbrev pub follow_from : List Entry → State → Option State
follow_from [] s = Some s
follow_from (e ∷ es) s = option_and_then (follow_from es) (follow_step e s)

-- The state after a history, its outputs blank; none where some entry does not follow.
abbrev pub follows : Opening → List Entry → Option State
follows o h = follow_from h (opening_state o)

abbrev pub IsFollowed : Opening → List Entry → Type 0
IsFollowed o h = is_some (follows o h) ≡ true

-- an output with the next unit for its content, or with nothing in it where there is none
abbrev pub with_unit : Kind → Event → List media.Unit → Event
with_unit k (event.Output number unit) [] = event.Output number (empty_output k)
with_unit k (event.Output number unit) (u ∷ us) = event.Output number u
with_unit k x us = x

abbrev pub units_after : Event → List media.Unit → List media.Unit
units_after (event.Output number unit) (u ∷ us) = us
units_after x us = us

-- a codec's events with these units for their outputs, in order, and the units that are left
abbrev pub filled : Kind → List Event → List media.Unit → List Event × List media.Unit
filled k [] us = ([], us)
filled k (x ∷ xs) us = let rest = filled k xs (units_after x us) in (with_unit k x us ∷ rest.0, rest.1)

-- an entry's turn, if it is one, and what it shows with these units
abbrev pub filled_at : Kind → Entry → State → List media.Unit → Shown
filled_at k e s us = record { turn = word_at e s; events = (filled k (shows e s) us).0 }

-- what each entry shows after a state, with these units for the outputs, up to an entry that does not follow
abbrev pub each_filled_from : Kind → List Entry → State → List media.Unit → List Shown
each_filled_from k [] s us = []
each_filled_from k (e ∷ es) s us = unwrap_or (option_map (λ t. filled_at k e s us ∷ each_filled_from k es t (filled k (shows e s) us).1) (follow_step e s)) []

abbrev pub each_filled : Opening → List Entry → List media.Unit → List Shown
each_filled o h us = each_filled_from o.kind h (opening_state o) us
