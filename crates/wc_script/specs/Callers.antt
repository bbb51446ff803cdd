-- The callers of a script, with their steps. At a step the counts are tried first.
use Rattle.std.specs.Prelude.{ℕ, ◌-◌, ◌==◌, ◌||◌, nat_lt, List, [], ◌∷◌, ◌++◌, length, codes, if◌then◌else◌, Option, Result, Ok, Err}
use Rattle.serde_json.specs.Data.{Data, Items, no_items, item}
use Rattle.script_types.specs.declared.fault.Place.TheVariants as place
use Rattle.script_types.specs.declared.fault.Counted.TheVariants as counted
use Rattle.chunk_files.specs.declared.fault.Stop.{Stop}
use Rattle.script_types.specs.declared.fault.Fault.{Fault}
use Rattle.script_types.specs.declared.fault.Fault.TheVariants as fault
use Rattle.script_types.specs.declared.script.CodecItem.{CodecItem}
use Rattle.script_types.specs.declared.script.CallerItem.{CallerItem}
use Rattle.script_types.specs.declared.script.PortItem.{PortItem}
use Rattle.script_types.specs.Names.{is_codec_name, is_caller_name}
use Rattle.script_types.specs.Sound.{most_chunk}
use Rattle.script_types.specs.declared.fault.Wrong.{Wrong}
use Rattle.chunk_files.specs.declared.fault.Stop.TheVariants as stop
use Rattle.script_types.specs.declared.fault.Wrong.TheVariants as wrong
use Rattle.script_steps.specs.Members.{and_then, needed, name_in, array_in}
use Rattle.script_steps.specs.Words.{inline_data, byte_count}
use Rattle.script_steps.specs.Steps.{step_of}
use Rattle.wc_script.specs.declared.callers.Room.{Room}
use Rattle.wc_script.specs.declared.callers.Walked.{Walked}
use Rattle.wc_script.specs.declared.callers.Heard.{Heard}
use Rattle.wc_script.specs.Faults.{at, proceed}

-- what may come after a step with so many bytes of inline data
abbrev pub room_after : Room → ℕ → Result Room (Stop Fault)
room_after room bytes =
    if room.steps == 0 then Err (stop.Fault (fault.TooMany counted.Steps))
    else if nat_lt most_chunk bytes then Err (stop.Fault (fault.TooMany counted.Chunk))
    else if nat_lt room.media bytes then Err (stop.Fault (fault.TooMany counted.Media))
    else Ok (record { steps = room.steps - 1; media = room.media - bytes })

-- one more step of caller i
unfoldable pub counted_step_of : List CodecItem → List (Option PortItem) → ℕ → Walked → Data → Result Walked (Stop Fault)
counted_step_of codecs ports i w d =
    proceed (room_after w.room (byte_count (inline_data d))) (λ room.
    proceed (at (place.Step i (length w.steps)) (step_of codecs ports w.files w.steps d)) (λ s.
    Ok (record { steps = w.steps ++ s.0 ∷ []; files = s.1; room = room })))

-- all steps of caller i, where those before are given
abbrev pub steps_of : List CodecItem → List (Option PortItem) → ℕ → Walked → Items → Result Walked (Stop Fault)
steps_of codecs ports i w no_items = Ok w
steps_of codecs ports i w (item d ds) = proceed (counted_step_of codecs ports i w d) (λ v. steps_of codecs ports i v ds)

-- the name of a caller, after the codecs and the callers before it, and its steps, not yet read
unfoldable pub heading_of : List CodecItem → List CallerItem → Data → Result (List ℕ × Items) (Stop Wrong)
heading_of codecs before d =
    and_then (name_in (codes "name") d) (λ name. and_then (needed (array_in (codes "steps") d)) (λ ds.
    if is_codec_name codecs name || is_caller_name before name then Err (stop.Fault wrong.Twice) else Ok (name, ds)))

-- a caller, with the chunk files mentioned and what may come after it
unfoldable pub caller_of : List CodecItem → List (Option PortItem) → List CallerItem → List (List ℕ) → Room → Data → Result Heard (Stop Fault)
caller_of codecs ports before files room d =
    proceed (at (place.Caller (length before)) (heading_of codecs before d)) (λ h.
    proceed (steps_of codecs ports (length before) (record { steps = []; files = files; room = room }) h.1) (λ w.
    Ok (record { caller = record { name = h.0; steps = w.steps }; files = w.files; room = w.room })))

-- all callers, where those before are given, with the chunk files mentioned and the room that is left
abbrev pub callers_of : List CodecItem → List (Option PortItem) → List CallerItem → List (List ℕ) → Room → Items → Result (List CallerItem × (List (List ℕ) × Room)) (Stop Fault)
callers_of codecs ports before files room no_items = Ok (before, (files, room))
callers_of codecs ports before files room (item d ds) =
    proceed (caller_of codecs ports before files room d) (λ h. callers_of codecs ports (before ++ h.caller ∷ []) h.files h.room ds)
