-- The report of a run (a format of our own) is the texts of its lines. It begins with `wcrun report 1`. For each caller it
-- has the line `caller NAME` and one line for each step made; for each codec the line `codec NAME KIND S` and its entries,
-- each with the lines of what it showed; then `pool` and the pool's entries, `slots` and the registry's, `held N` and `end`.
use Rattle.std.specs.Prelude.{ℕ, ◌+◌, List, [], ◌∷◌, ◌++◌, flat_map, unwrap_or, Option, Some, None}
use Rattle.std.specs.List.{zip}
use Rattle.wc_base.specs.declared.error.DomError.{DomError}
use Rattle.wc_base.specs.declared.who.Who.{Who}
use Rattle.wc_config.specs.declared.config.AudioDecoderConfig.{AudioDecoderConfig}
use Rattle.wc_pool.specs.declared.entry.PoolEntry.{PoolEntry}
use Rattle.coder_api.specs.declared.slot.SlotEntry.{SlotEntry}
use Rattle.codec_definitions.specs.declared.unit.Unit as media
use Rattle.codec_definitions.specs.declared.unit.Unit.TheVariants as unit
use Rattle.codec_model.specs.declared.entry.Event.{Event}
use Rattle.codec_model.specs.declared.entry.Event.TheVariants as event
use Rattle.codec_model.specs.declared.entry.Shown.{Shown}
use Rattle.codec_model.specs.declared.entry.Call.{Call}
use Rattle.codec_model.specs.declared.entry.Call.TheVariants as call
use Rattle.codec_model.specs.declared.entry.Entry.{Entry}
use Rattle.codec_model.specs.declared.entry.Entry.TheVariants as entry
use Rattle.script_types.specs.declared.script.ScriptData.{ScriptData}
use Rattle.report_text.specs.declared.result.StepResult.{StepResult}
use Rattle.report_text.specs.declared.line.CallWord.TheVariants as word
use Rattle.report_text.specs.declared.line.EntryLine.{EntryLine}
use Rattle.report_text.specs.declared.line.EntryLine.TheVariants as entry_line
use Rattle.report_text.specs.declared.line.EventLine.TheVariants as event_line
use Rattle.report_text.specs.declared.line.Line.{Line}
use Rattle.report_text.specs.declared.line.Line.TheVariants as line
use Rattle.report_text.specs.Text.{line_text}
use Rattle.run_model.specs.Fits.{refusal_in}
use Rattle.run_model.specs.declared.run.CallerTrace.{CallerTrace}
use Rattle.run_model.specs.declared.run.CodecTrace.{CodecTrace}
use Rattle.run_model.specs.declared.run.Run.{Run}

-- the lines of items, each with its number
abbrev pub lines_from : {X : Type 0} → (ℕ → X → List Line) → ℕ → List X → List Line
lines_from lines n [] = []
lines_from lines n (x ∷ xs) = lines n x ++ lines_from lines (n + 1) xs

-- ---- callers

abbrev pub result_lines : ℕ → StepResult → List Line
result_lines step answer = line.Result step answer ∷ []

-- the line that begins a caller, and its results, numbered by their steps
abbrev pub caller_lines : ℕ → CallerTrace → List Line
caller_lines n caller = line.Caller n ∷ lines_from result_lines 0 caller.results

-- ---- what an entry showed

-- a decoder's config, in which an absent description is one of no bytes
abbrev pub config_line : AudioDecoderConfig → Line
config_line c = line.Event (event_line.Config c.codec c.rate c.channels (unwrap_or c.description []))

abbrev pub config_lines : Option AudioDecoderConfig → List Line
config_lines None = []
config_lines (Some c) = config_line c ∷ []

-- an output; behind a chunk stands the config that it carries
abbrev pub output_lines : media.Unit → List Line
output_lines (unit.Sound samples) = line.Event (event_line.Sound samples) ∷ []
output_lines (unit.Image picture) = line.Event (event_line.Image picture) ∷ []
output_lines (unit.Coded chunk config) = line.Event (event_line.Chunk chunk) ∷ config_lines config

-- an event; a refusal stands in its call's own line
abbrev pub event_lines : Event → List Line
event_lines (event.Refusal error) = []
event_lines (event.Output number unit) = output_lines unit
event_lines (event.Resolve promise) = line.Event (event_line.Resolve promise) ∷ []
event_lines (event.Reject promise error) = line.Event (event_line.Reject promise error) ∷ []
event_lines event.Dequeue = line.Event event_line.Dequeue ∷ []
event_lines (event.ErrorCall error) = line.Event (event_line.Error error) ∷ []

-- ---- entries of codecs

-- what stands on the line of a call: its exception, if it has one, or the number of the output that it takes, or its ground
abbrev pub call_line_of : Who → Call → Option DomError → EntryLine
call_line_of who (call.Configure config) error = entry_line.Call who word.Configure error
call_line_of who (call.Decode chunk) error = entry_line.Call who word.Decode error
call_line_of who (call.Encode handed) error = entry_line.Call who word.Encode error
call_line_of who call.Flush error = entry_line.Call who word.Flush error
call_line_of who call.Reset error = entry_line.Call who word.Reset error
call_line_of who call.Close error = entry_line.Call who word.Close error
call_line_of who (call.Take unit) error = entry_line.Take who unit
call_line_of who (call.Ground to) error = entry_line.Ground who to

-- what stands on an entry's line behind its place; on that of a turn the task that it ran
abbrev pub entry_line_of : Entry → Shown → EntryLine
entry_line_of (entry.Call who x) shown = call_line_of who x (refusal_in shown.events)
entry_line_of (entry.Start epoch item) shown = entry_line.Start epoch item
entry_line_of (entry.Done epoch item moment outcome) shown = entry_line.Done epoch item moment outcome
entry_line_of entry.Turn shown = entry_line.Turn shown.turn
entry_line_of (entry.Reclaim moment) shown = entry_line.Reclaim moment

-- an entry, and what it showed
abbrev pub entry_lines : ℕ → Entry × Shown → List Line
entry_lines place pair = line.Entry place (entry_line_of pair.0 pair.1) ∷ flat_map event_lines pair.1.events

-- the line that begins a codec, and its entries, numbered by their places
abbrev pub codec_lines : ℕ → CodecTrace → List Line
codec_lines n codec = line.Codec n codec.opening ∷ lines_from entry_lines 0 (zip codec.entries codec.shown)

-- ---- the whole

abbrev pub pool_lines : ℕ → PoolEntry → List Line
pool_lines place e = line.Reference place e ∷ []

abbrev pub slot_lines : ℕ → SlotEntry → List Line
slot_lines place slot = line.Slot place slot ∷ []

-- how many media resources are still held, and the end
abbrev pub end_lines : ℕ → List Line
end_lines held = line.Held held ∷ line.End ∷ []

-- the registry's entries, and the end
abbrev pub slots_lines : Run → List Line
slots_lines run = lines_from slot_lines 0 run.slots ++ end_lines run.held

-- callers and codecs, numbered in order, the entries of the pool of media, and the registry's
abbrev pub lines_of : Run → List Line
lines_of run =
    line.Header ∷ (lines_from caller_lines 0 run.callers
    ++ (lines_from codec_lines 0 run.codecs ++ (line.Pool ∷ lines_from pool_lines 0 run.pool ++ (line.Slots ∷ slots_lines run))))

-- the report of a run of the script
abbrev pub report_of : ScriptData → Run → List ℕ
report_of script run = flat_map (line_text script) (lines_of run)
