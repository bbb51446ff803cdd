-- The run that the lines of a report show, whatever they are.
use Rattle.std.specs.Prelude.{ℕ, zero, suc, ◌+◌, nat_lt, if◌then◌else◌, List, [], ◌∷◌, ◌++◌, length, drop, Option, Some, None, option_map, option_and_then, option_to_list}
use Rattle.wc_config.specs.declared.config.AudioDecoderConfig.{AudioDecoderConfig}
use Rattle.wc_chunk.specs.declared.chunk.Chunk.{Chunk}
use Rattle.wc_pool.specs.declared.entry.PoolEntry.{PoolEntry}
use Rattle.codec_definitions.specs.declared.unit.Unit as media
use Rattle.codec_definitions.specs.declared.unit.Unit.TheVariants as unit
use Rattle.coder_api.specs.declared.slot.SlotEntry.{SlotEntry}
use Rattle.wc_config.specs.declared.kind.Kind.{Kind}
use Rattle.wc_config.specs.declared.kind.Kind.TheVariants as kind
use Rattle.codec_model.specs.declared.entry.Opening.{Opening}
use Rattle.codec_model.specs.Control.{no_opening}
use Rattle.codec_model.specs.declared.entry.Entry.{Entry}
use Rattle.codec_model.specs.Replay.{State, opening_state}
use Rattle.codec_follow.specs.Follow.{follow_step, each_filled}
use Rattle.codec_follow.specs.Outputs.{is_codec_string}
use Rattle.script_types.specs.declared.script.ScriptData.{ScriptData}
use Rattle.report_text.specs.declared.result.StepResult.{StepResult}
use Rattle.run_model.specs.declared.run.CallerTrace.{CallerTrace}
use Rattle.run_model.specs.declared.run.CodecTrace.{CodecTrace}
use Rattle.run_model.specs.declared.run.Run.{Run}
use Rattle.report_text.specs.declared.line.EntryLine.{EntryLine}
use Rattle.report_text.specs.declared.line.EventLine.{EventLine}
use Rattle.report_text.specs.declared.line.EventLine.TheVariants as event_line
use Rattle.report_text.specs.declared.line.Line.{Line}
use Rattle.report_text.specs.declared.line.Line.TheVariants as line
use Rattle.report_reader.specs.declared.known.Known.{Known}
use Rattle.report_reader.specs.Arguments.{entry_of}

-- ---- callers

-- the results in front, and the lines behind them
abbrev pub results_in : List Line → List StepResult
results_in [] = []
results_in (line.Result step found ∷ ls) = found ∷ results_in ls
results_in (l ∷ ls) = []

abbrev pub behind_results : List Line → List Line
behind_results [] = []
behind_results (line.Result step found ∷ ls) = behind_results ls
behind_results (l ∷ ls) = l ∷ ls

-- so many callers, each with its line and its results, and the lines behind them
abbrev pub callers_in : ℕ → List Line → List CallerTrace × List Line
callers_in zero ls = ([], ls)
callers_in (suc k) ls =
    let rest = callers_in k (behind_results (drop 1 ls)) in
    (record { results = results_in (drop 1 ls) } ∷ rest.0, rest.1)

-- ---- the entries of a codec

-- the entry that is told at this place of the codec with this number, where it has its arguments and follows, and the state
-- after it
abbrev pub next_of : ScriptData → List (List Chunk) → Known → ℕ → ℕ → State → EntryLine → Option (Entry × State)
next_of script media known k place s t = option_and_then (λ e. option_map (λ u. (e, u)) (follow_step e s)) (entry_of script media known k place t)

-- an entry, and those that come behind it
abbrev pub entry_then : (State → List Entry) → Option (Entry × State) → List Entry
entry_then rest None = []
entry_then rest (Some x) = x.0 ∷ rest x.1

-- the entries that are told from this place on, up to the first that has no arguments or does not follow
abbrev pub entries_from : ScriptData → List (List Chunk) → Known → ℕ → ℕ → State → List EntryLine → List Entry
entries_from script media known k place s [] = []
entries_from script media known k place s (t ∷ ts) = entry_then (λ u. entries_from script media known k (place + 1) u ts) (next_of script media known k place s t)

-- the entries that are told in front, among the lines of what they show, and the lines behind
abbrev pub entry_lines_in : List Line → List EntryLine
entry_lines_in [] = []
entry_lines_in (line.Entry place t ∷ ls) = t ∷ entry_lines_in ls
entry_lines_in (line.Event shown ∷ ls) = entry_lines_in ls
entry_lines_in (l ∷ ls) = []

abbrev pub behind_entries : List Line → List Line
behind_entries [] = []
behind_entries (line.Entry place t ∷ ls) = behind_entries ls
behind_entries (line.Event shown ∷ ls) = behind_entries ls
behind_entries (l ∷ ls) = l ∷ ls

-- ---- the outputs of a codec

-- no bytes are no description
abbrev pub description_of : List ℕ → Option (List ℕ)
description_of [] = None
description_of (b ∷ bs) = Some (b ∷ bs)

-- the config of these parts, whose codec has to be a codec string
abbrev pub config_of : List ℕ → ℕ → ℕ → List ℕ → Option AudioDecoderConfig
config_of codec rate channels description = if is_codec_string codec then Some (record { codec = codec; rate = rate; channels = channels; description = description_of description }) else None

-- the config in front, if there is one
abbrev pub config_in : List Line → Option AudioDecoderConfig
config_in (line.Event (event_line.Config codec rate channels description) ∷ ls) = config_of codec rate channels description
config_in _ = None

-- The output that a line shows, if it shows one of a codec of this kind: an audio decoder gives samples, whose rate is above
-- 0, an audio encoder chunks, a video decoder pictures, and a video encoder chunks. A chunk of an audio encoder has the config of
-- the line behind it, and one of a video encoder has none.
abbrev pub unit_of : Kind → EventLine → Option AudioDecoderConfig → Option media.Unit
unit_of kind.AudioDecoder (event_line.Sound samples) config = if nat_lt 0 samples.shape.rate then Some (unit.Sound samples) else None
unit_of kind.AudioEncoder (event_line.Chunk chunk) config = Some (unit.Coded chunk config)
unit_of kind.VideoDecoder (event_line.Image picture) config = Some (unit.Image picture)
unit_of kind.VideoEncoder (event_line.Chunk chunk) config = Some (unit.Coded chunk None)
unit_of k _ config = None

-- the outputs in front of a codec of this kind, among the lines of entries
abbrev pub outputs_in : Kind → List Line → List media.Unit
outputs_in k [] = []
outputs_in k (line.Entry place t ∷ ls) = outputs_in k ls
outputs_in k (line.Event shown ∷ ls) = option_to_list (unit_of k shown (config_in ls)) ++ outputs_in k ls
outputs_in k (l ∷ ls) = []

-- ---- codecs

-- how the codec whose line is in front was opened
abbrev pub opening_of : List Line → Opening
opening_of (line.Codec n opening ∷ ls) = opening
opening_of _ = no_opening

-- a codec opened so, with the entries that are told, and these outputs
abbrev pub trace_of : ScriptData → List (List Chunk) → Known → ℕ → Opening → List EntryLine → List media.Unit → CodecTrace
trace_of script media known k o ts us =
    let entries = entries_from script media known k 0 (opening_state o) ts in
    record { opening = o; entries = entries; shown = each_filled o entries us }

-- the outputs of the codec whose line is in front
abbrev pub own_outputs : List Line → List media.Unit
own_outputs ls = outputs_in (opening_of ls).kind (drop 1 ls)

-- the codec with this number, whose line is in front
abbrev pub codec_in : ScriptData → List (List Chunk) → Known → ℕ → List Line → CodecTrace
codec_in script media known k ls = trace_of script media known k (opening_of ls) (entry_lines_in (drop 1 ls)) (own_outputs ls)

-- so many codecs from this number on, each with its line and its entries
abbrev pub codecs_in : ScriptData → List (List Chunk) → Known → ℕ → ℕ → List Line → List CodecTrace
codecs_in script media known k zero ls = []
codecs_in script media known k (suc n) ls = codec_in script media known k ls ∷ codecs_in script media known (k + 1) n (behind_entries (drop 1 ls))

-- the outputs of so many codecs, whatever their entries are, and the lines behind them
abbrev pub all_outputs_in : ℕ → List Line → List (List media.Unit) × List Line
all_outputs_in zero ls = ([], ls)
all_outputs_in (suc n) ls =
    let rest = all_outputs_in n (behind_entries (drop 1 ls)) in
    (own_outputs ls ∷ rest.0, rest.1)

-- ---- the pool of media

-- the entries in front, and the lines behind them
abbrev pub pool_in : List Line → List PoolEntry
pool_in [] = []
pool_in (line.Reference place entry ∷ ls) = entry ∷ pool_in ls
pool_in (l ∷ ls) = []

abbrev pub behind_pool : List Line → List Line
behind_pool [] = []
behind_pool (line.Reference place entry ∷ ls) = behind_pool ls
behind_pool (l ∷ ls) = l ∷ ls

-- ---- the registry

abbrev pub slots_in : List Line → List SlotEntry
slots_in [] = []
slots_in (line.Slot place entry ∷ ls) = entry ∷ slots_in ls
slots_in (l ∷ ls) = []

abbrev pub held_in : List Line → ℕ
held_in [] = 0
held_in (line.Slot place entry ∷ ls) = held_in ls
held_in (line.Held held ∷ ls) = held
held_in (l ∷ ls) = 0

-- ---- the run

-- the run of this script that the lines show. `media` has the chunks of each of its chunk files
unfoldable pub run_of : ScriptData → List (List Chunk) → List Line → Run
run_of script media ls =
    let callers = callers_in (length script.callers) (drop 1 ls) in
    let outputs = all_outputs_in (length script.codecs) callers.1 in
    let pool = drop 1 outputs.1 in
    let known : Known = record { callers = callers.0; outputs = outputs.0; pool = pool_in pool } in
    let codecs = codecs_in script media known 0 (length script.codecs) callers.1 in
    let slots = drop 1 (behind_pool pool) in
    record { callers = callers.0; codecs = codecs; pool = pool_in pool; slots = slots_in slots; held = held_in slots }
