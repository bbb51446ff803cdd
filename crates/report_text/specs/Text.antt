-- The text of each line of a report, which ends with its only line feed: numbers in decimal, bytes in lower case hex, and
-- `-` for no bytes and for what is absent.
use Rattle.std.specs.Prelude.{ℕ, ℤ, ◌*◌, ◌/◌, ◌==◌, if◌then◌else◌, Bool, true, false, List, [], ◌∷◌, ◌++◌, codes, decimal, Option, Some, None}
use Rattle.std.specs.Fmt.{signed_decimal}
use Rattle.hex.specs.Hex.{encode_lower}
use Rattle.wc_base.specs.declared.media.SoundShape.{SoundShape}
use Rattle.wc_base.specs.declared.media.PictureShape.{PictureShape}
use Rattle.wc_video.specs.declared.layout.PlaneLayout.{PlaneLayout}
use Rattle.wc_video.specs.declared.layout.Layouts.{Layouts}
use Rattle.wc_pool.specs.declared.entry.PoolEntry.{PoolEntry}
use Rattle.wc_pool.specs.declared.entry.PoolOp.{PoolOp}
use Rattle.wc_pool.specs.declared.entry.PoolOp.TheVariants as pool
use Rattle.coder_api.specs.declared.slot.SlotEntry.{SlotEntry}
use Rattle.coder_api.specs.declared.slot.SlotOp.{SlotOp}
use Rattle.coder_api.specs.declared.slot.SlotOp.TheVariants as slot
use Rattle.codec_model.specs.declared.entry.Opening.{Opening}
use Rattle.codec_model.specs.declared.entry.PromiseState.{PromiseState}
use Rattle.codec_model.specs.declared.entry.PromiseState.TheVariants as promise
use Rattle.codec_model.specs.declared.entry.Outcome.{Outcome}
use Rattle.codec_model.specs.declared.entry.Outcome.TheVariants as outcome
use Rattle.codec_model.specs.declared.entry.TurnWord.{TurnWord}
use Rattle.codec_model.specs.declared.entry.TurnWord.TheVariants as turn
use Rattle.script_types.specs.declared.script.ScriptData.{ScriptData}
use Rattle.script_types.specs.declared.script.CodecItem.{CodecItem}
use Rattle.script_types.specs.declared.script.CallerItem.{CallerItem}
use Rattle.script_types.specs.Names.{ground_text, kind_text}
use Rattle.report_text.specs.declared.result.StepResult.{StepResult}
use Rattle.report_text.specs.declared.result.StepResult.TheVariants as result
use Rattle.report_text.specs.declared.line.EntryLine.{EntryLine}
use Rattle.report_text.specs.declared.line.EntryLine.TheVariants as entry
use Rattle.report_text.specs.declared.line.EventLine.{EventLine}
use Rattle.report_text.specs.declared.line.EventLine.TheVariants as event
use Rattle.report_text.specs.declared.line.Line.{Line}
use Rattle.report_text.specs.declared.line.Line.TheVariants as line
use Rattle.report_text.specs.Words.{◌<>◌, error_name, answer_text, state_text, call_word, sample_format_text, picture_format_text, chunk_type_text}
use Rattle.report_text.specs.Names.{caller_name, codec_name, who_text, entry_name, look_name, by_text, item_text, coder_text}

-- ---- results of callers

abbrev pub promise_text : PromiseState → List ℕ
promise_text promise.Pending = codes "pending"
promise_text promise.Resolved = codes "resolved"
promise_text (promise.Rejected error) = codes "rejected " <> error_name error

-- lower case hex, or `-` for no bytes
abbrev pub hex_or_dash : List ℕ → List ℕ
hex_or_dash [] = codes "-"
hex_or_dash (b ∷ bytes) = encode_lower (b ∷ bytes)

-- where a plane went, as `OFFSET:STRIDE`
abbrev pub layout_text : PlaneLayout → List ℕ
layout_text l = decimal l.offset <> codes ":" <> decimal l.stride

-- the third plane, where there is one
abbrev pub third_text : Layouts → List ℕ
third_text l = if l.count == 3 then codes "," <> layout_text l.third else []

abbrev pub layouts_text : Layouts → List ℕ
layouts_text l = layout_text l.first <> codes "," <> layout_text l.second <> third_text l

-- what stands in front of a copy's destination
abbrev pub copied_text : ℕ → List ℕ
copied_text n = codes "copied " <> decimal n <> codes " "

abbrev pub copied_frame_text : ℕ → Layouts → List ℕ
copied_frame_text n layouts = codes "copied " <> decimal n <> codes " " <> layouts_text layouts <> codes " "

-- what a step came to; one that receives a medium names the step that posted it, or there was none
abbrev pub result_text : List CallerItem → List CodecItem → StepResult → List ℕ
result_text callers codecs (result.Call n place error) = entry_name codecs n place <> codes " " <> answer_text error
result_text callers codecs (result.Local error) = answer_text error
result_text callers codecs (result.Look n length end) = look_name codecs n length <> codes " " <> promise_text end
result_text callers codecs (result.State n length state size) =
    look_name codecs n length <> codes " " <> state_text state <> codes " " <> decimal size
result_text callers codecs (result.Unit n place number) = entry_name codecs n place <> codes " unit " <> decimal number
result_text callers codecs (result.NoUnit n length) = look_name codecs n length <> codes " none"
result_text callers codecs (result.Copied n bytes) = copied_text n ++ hex_or_dash bytes
result_text callers codecs (result.CopiedFrame n layouts bytes) = copied_frame_text n layouts ++ hex_or_dash bytes
result_text callers codecs (result.Size n) = codes "size " <> decimal n
result_text callers codecs (result.From who) = codes "from " <> who_text callers who
result_text callers codecs result.Nothing = codes "none"
result_text callers codecs result.Absent = codes "absent"

-- ---- entries of codecs

abbrev pub outcome_text : Outcome → List ℕ
outcome_text (outcome.Ran units) = codes "ran " <> decimal units
outcome_text outcome.Refused = codes "refused"
outcome_text (outcome.NoSlot n) = codes "no-slot " <> decimal n
outcome_text outcome.NoMemory = codes "no-memory"

-- the event task that a turn ran, or `-` where there is none
abbrev pub turn_text : Option TurnWord → List ℕ
turn_text None = codes "-"
turn_text (Some turn.Unblock) = codes "unblock"
turn_text (Some turn.Process) = codes "process"
turn_text (Some turn.Desaturate) = codes "desaturate"
turn_text (Some turn.Output) = codes "output"
turn_text (Some turn.Flushed) = codes "flushed"
turn_text (Some turn.Dequeue) = codes "dequeue"
turn_text (Some (turn.Close error)) = codes "close " <> error_name error

-- a call as `A.J configure = R`, a take as `A.J take = M`, a ground as `A.J ground WORD = ok`, and the entries that no caller
-- makes by their first word
abbrev pub entry_text : List CallerItem → EntryLine → List ℕ
entry_text callers (entry.Call who word error) =
    who_text callers who <> codes " " <> call_word word <> codes " = " <> answer_text error
entry_text callers (entry.Take who unit) = who_text callers who <> codes " take = " <> decimal unit
entry_text callers (entry.Ground who to) = who_text callers who <> codes " ground " <> ground_text to <> codes " = ok"
entry_text callers (entry.Start epoch item) = codes "start " <> item_text epoch item
entry_text callers (entry.Done epoch item moment outcome) =
    codes "done " <> item_text epoch item <> codes " " <> decimal moment <> codes " " <> outcome_text outcome
entry_text callers (entry.Turn word) = codes "turn " <> turn_text word
entry_text callers (entry.Reclaim moment) = codes "reclaim " <> decimal moment

-- ---- what an entry showed, behind two blanks

-- a number, or `-` where it is absent
abbrev pub number_or_dash : Option ℕ → List ℕ
number_or_dash None = codes "-"
number_or_dash (Some n) = decimal n

-- how long samples last, in whole microseconds (W3C WebCodecs, AudioData.duration)
abbrev pub sound_duration : SoundShape → ℕ
sound_duration shape = if shape.rate == 0 then 0 else shape.frames * 1000000 / shape.rate

-- `HEAD TIMESTAMP DURATION HEX`
abbrev pub content_line : List ℕ → ℤ → Option ℕ → List ℕ → List ℕ
content_line head timestamp duration bytes =
    (head <> codes " " <> signed_decimal timestamp <> codes " " <> number_or_dash duration <> codes " ") ++ hex_or_dash bytes ++ codes "\n"

-- `FORMAT RATE CHANNELS FRAMES`
abbrev pub sound_text : SoundShape → List ℕ
sound_text shape =
    sample_format_text shape.format <> codes " " <> decimal shape.rate <> codes " " <> decimal shape.channels <> codes " " <> decimal shape.frames

-- `FORMAT WIDTH HEIGHT`
abbrev pub picture_text : PictureShape → List ℕ
picture_text shape = picture_format_text shape.format <> codes " " <> decimal shape.width <> codes " " <> decimal shape.height

-- `CODEC RATE CHANNELS DESCRIPTION`
abbrev pub config_text : List ℕ → ℕ → ℕ → List ℕ → List ℕ
config_text codec rate channels description =
    (codes "  config " <> codec <> codes " " <> decimal rate <> codes " " <> decimal channels <> codes " ") ++ hex_or_dash description ++ codes "\n"

abbrev pub event_text : EventLine → List ℕ
event_text (event.Sound samples) =
    content_line (codes "  output audio " <> sound_text samples.shape) samples.shape.timestamp (Some (sound_duration samples.shape)) samples.bytes
event_text (event.Image picture) =
    content_line (codes "  output video " <> picture_text picture.shape) picture.shape.timestamp picture.shape.duration picture.bytes
event_text (event.Chunk chunk) =
    content_line (codes "  output chunk " <> chunk_type_text chunk.key) chunk.timestamp chunk.duration chunk.bytes
event_text (event.Config codec rate channels description) = config_text codec rate channels description
event_text (event.Resolve promise) = codes "  resolve " <> decimal promise <> codes "\n"
event_text (event.Reject promise error) = codes "  reject " <> decimal promise <> codes " " <> error_name error <> codes "\n"
event_text event.Dequeue = codes "  dequeue\n"
event_text (event.Error error) = codes "  error " <> error_name error <> codes "\n"

-- ---- entries of the pool of media

-- whether the resource of a reference that ended is kept
abbrev pub last_text : Bool → List ℕ
last_text true = codes "gone"
last_text false = codes "kept"

abbrev pub pool_text : PoolOp → List ℕ
pool_text (pool.Make resource reference) = codes "make " <> decimal resource <> codes " " <> decimal reference
pool_text (pool.Clone resource reference) = codes "clone " <> decimal resource <> codes " " <> decimal reference
pool_text (pool.End resource reference last) =
    codes "end " <> decimal resource <> codes " " <> decimal reference <> codes " " <> last_text last

abbrev pub pool_entry_text : ScriptData → PoolEntry → List ℕ
pool_entry_text script e = by_text script e.by <> codes " " <> pool_text e.op

-- ---- entries of the registry of coders

abbrev pub slot_text : SlotOp → List ℕ
slot_text (slot.Acquire id number) = codes "acquire " <> coder_text id <> codes " " <> decimal number
slot_text (slot.Refused id out made) =
    codes "acquire " <> coder_text id <> codes " none " <> decimal out <> codes " " <> decimal made
slot_text (slot.Give id number) = codes "give " <> coder_text id <> codes " " <> decimal number

abbrev pub slot_entry_text : ScriptData → SlotEntry → List ℕ
slot_entry_text script e = by_text script e.by <> codes " " <> slot_text e.op

-- ---- every line

-- a line with its number, as `3 d.2 ok`
abbrev pub numbered_line : ℕ → List ℕ → List ℕ
numbered_line n text = decimal n <> codes " " <> text <> codes "\n"

-- the line `codec NAME KIND S`
abbrev pub codec_line : List ℕ → Opening → List ℕ
codec_line name opening =
    codes "codec " <> name <> codes " " <> kind_text opening.kind <> codes " " <> decimal opening.saturation <> codes "\n"

-- the text of a line in the report of a run of the script
abbrev pub line_text : ScriptData → Line → List ℕ
line_text script line.Header = codes "wcrun report 1\n"
line_text script (line.Caller n) = codes "caller " <> caller_name script.callers n <> codes "\n"
line_text script (line.Result step answer) = numbered_line step (result_text script.callers script.codecs answer)
line_text script (line.Codec n opening) = codec_line (codec_name script.codecs n) opening
line_text script (line.Entry place e) = numbered_line place (entry_text script.callers e)
line_text script (line.Event e) = event_text e
line_text script line.Pool = codes "pool\n"
line_text script (line.Reference place e) = numbered_line place (pool_entry_text script e)
line_text script line.Slots = codes "slots\n"
line_text script (line.Slot place e) = numbered_line place (slot_entry_text script e)
line_text script (line.Held n) = codes "held " <> decimal n <> codes "\n"
line_text script line.End = codes "end\n"
