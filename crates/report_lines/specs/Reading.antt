-- How the line in front of some bytes is read: its kind is told by its first word, or by the mark behind the word that
-- follows its number. A line is taken only where its text, written again, stands in front.
use Rattle.std.specs.Prelude.{ℕ, Bool, List, [], codes, Option, Some, None, ◌==◌, if◌then◌else◌, ◌||◌, position, bytes_eq}
use Rattle.std.specs.List.{list_all}
use Rattle.std.specs.Char.{is_ascii_digit}
use Rattle.wc_base.specs.declared.error.DomError.{DomError}
use Rattle.wc_base.specs.declared.who.Who.{Who}
use Rattle.wc_base.specs.declared.who.By.{By}
use Rattle.wc_base.specs.declared.who.By.TheVariants as by
use Rattle.wc_config.specs.declared.codec.CoderId.{CoderId}
use Rattle.wc_video.specs.declared.layout.PlaneLayout.{PlaneLayout}
use Rattle.wc_video.specs.declared.layout.Layouts.{Layouts}
use Rattle.wc_pool.specs.declared.entry.PoolOp.{PoolOp}
use Rattle.wc_pool.specs.declared.entry.PoolOp.TheVariants as pool
use Rattle.coder_api.specs.declared.slot.SlotOp.{SlotOp}
use Rattle.coder_api.specs.declared.slot.SlotOp.TheVariants as slot
use Rattle.codec_model.specs.declared.entry.CodecState.{CodecState}
use Rattle.codec_model.specs.declared.entry.PromiseState.{PromiseState}
use Rattle.codec_model.specs.declared.entry.PromiseState.TheVariants as promise
use Rattle.codec_model.specs.declared.entry.Outcome.{Outcome}
use Rattle.codec_model.specs.declared.entry.Outcome.TheVariants as outcome
use Rattle.codec_model.specs.declared.entry.TurnWord.{TurnWord}
use Rattle.codec_model.specs.declared.entry.TurnWord.TheVariants as turn
use Rattle.script_types.specs.declared.script.ScriptData.{ScriptData}
use Rattle.script_types.specs.declared.script.CodecItem.{CodecItem}
use Rattle.script_types.specs.declared.script.CallerItem.{CallerItem}
use Rattle.script_types.specs.Names.{ground_named, kind_named}
use Rattle.report_text.specs.declared.result.StepResult.{StepResult}
use Rattle.report_text.specs.declared.result.StepResult.TheVariants as result
use Rattle.report_lines.specs.Words.{◌>>=◌, upto, after, word_at}
use Rattle.report_lines.specs.Fields.{short, number_upto, short_upto, signed_upto, number_or_dash_upto, bytes_upto}
use Rattle.report_text.specs.declared.line.EntryLine.{EntryLine}
use Rattle.report_text.specs.declared.line.EntryLine.TheVariants as entry_line
use Rattle.report_text.specs.declared.line.EventLine.{EventLine}
use Rattle.report_text.specs.declared.line.EventLine.TheVariants as event_line
use Rattle.report_text.specs.declared.line.Line.{Line}
use Rattle.report_text.specs.declared.line.Line.TheVariants as line
use Rattle.report_text.specs.Text.{line_text}
use Rattle.report_lines.specs.Vocabulary.{error_of, answer_of, state_of, call_of, sample_format_of, picture_format_of, codec_id_of, role_of, key_of, last_of}
use Rattle.report_lines.specs.Fits.{is_no_feed, no_layout}

-- ---- names

-- the number of the first caller of a name
abbrev pub caller_of : List CallerItem → List ℕ → Option ℕ
caller_of callers w = position (λ c. bytes_eq c.name w) callers >>= short

abbrev pub codec_of : List CodecItem → List ℕ → Option ℕ
codec_of codecs w = position (λ c. bytes_eq c.name w) codecs >>= short

unfoldable pub error_at : List ℕ → Option DomError
error_at bs = do
  w ← word_at bs
  error_of w.0

unfoldable pub answer_at : List ℕ → Option (Option DomError)
answer_at bs = do
  w ← word_at bs
  answer_of w.0

-- Results of callers.

unfoldable pub promise_at : List ℕ → Option PromiseState
promise_at bs = do
  w ← word_at bs
  if bytes_eq w.0 (codes "pending") then Some promise.Pending
      else if bytes_eq w.0 (codes "resolved") then Some promise.Resolved
      else if bytes_eq w.0 (codes "rejected") then (error_at w.2 >>= λ e. Some (promise.Rejected e))
      else None

-- a look at a promise or a state, behind the number of entries
abbrev pub look_as : Option CodecState → ℕ → ℕ → List ℕ → List ℕ → Option StepResult
look_as None n len bs rest = promise_at bs >>= λ end. Some (result.Look n len end)
look_as (Some s) n len bs rest = number_upto 10 rest >>= λ size. Some (result.State n len s size.0)

-- `none` tells a take that found no output
unfoldable pub look_at : ℕ → ℕ → List ℕ → Option StepResult
look_at n len bs = do
  w ← word_at bs
  if bytes_eq w.0 (codes "none") then Some (result.NoUnit n len) else look_as (state_of w.0) n len bs w.2

unfoldable pub look_line_at : ScriptData → ℕ → List ℕ → List ℕ → Option Line
look_line_at script step name bs = do
  n ← codec_of script.codecs name
  len ← number_upto 32 bs
  found ← look_at n len.0 len.1
  Some (line.Result step found)

unfoldable pub call_result_at : ScriptData → ℕ → List ℕ → ℕ → List ℕ → Option Line
call_result_at script step name place w = do
  n ← codec_of script.codecs name
  error ← answer_of w
  Some (line.Result step (result.Call n place error))

unfoldable pub unit_at : ScriptData → ℕ → List ℕ → ℕ → List ℕ → Option Line
unit_at script step name place bs = do
  n ← codec_of script.codecs name
  number ← number_upto 10 bs
  Some (line.Result step (result.Unit n place number.0))

-- Copies.

-- where a plane went, up to the mark
unfoldable pub layout_at : ℕ → List ℕ → Option (PlaneLayout × List ℕ)
layout_at mark bs = do
  offset ← short_upto 58 bs
  stride ← short_upto mark offset.1
  Some (record { offset = offset.0; stride = stride.0 }, stride.1)

unfoldable pub two_layouts_at : PlaneLayout → List ℕ → Option (Layouts × List ℕ)
two_layouts_at first bs = do
  second ← layout_at 32 bs
  Some (record { count = 2; first = first; second = second.0; third = no_layout }, second.1)

unfoldable pub three_layouts_at : PlaneLayout → List ℕ → Option (Layouts × List ℕ)
three_layouts_at first bs = do
  second ← layout_at 44 bs
  third ← layout_at 32 second.1
  Some (record { count = 3; first = first; second = second.0; third = third.0 }, third.1)

-- the mark behind the second plane tells whether a third follows
unfoldable pub layouts_at : List ℕ → Option (Layouts × List ℕ)
layouts_at bs = do
  first ← layout_at 44 bs
  offset ← word_at first.1
  stride ← word_at offset.2
  if stride.1 == 44 then three_layouts_at first.0 first.1 else two_layouts_at first.0 first.1

unfoldable pub copied_bytes_at : ℕ → List ℕ → Option StepResult
copied_bytes_at n bs = do
  bytes ← bytes_upto 10 bs
  Some (result.Copied n bytes.0)

unfoldable pub copied_frame_at : ℕ → List ℕ → Option StepResult
copied_frame_at n bs = do
  layouts ← layouts_at bs
  bytes ← bytes_upto 10 layouts.1
  Some (result.CopiedFrame n layouts.0 bytes.0)

-- behind the count of bytes the colon of a layout tells a frame
unfoldable pub copied_at : List ℕ → Option StepResult
copied_at bs = do
  n ← number_upto 32 bs
  w ← word_at n.1
  if w.1 == 58 then copied_frame_at n.0 n.1 else copied_bytes_at n.0 n.1

unfoldable pub copied_line_at : ℕ → List ℕ → Option Line
copied_line_at step bs = do
  found ← copied_at bs
  Some (line.Result step found)

-- Entries of codecs.

unfoldable pub outcome_at : List ℕ → Option Outcome
outcome_at bs = do
  w ← word_at bs
  if bytes_eq w.0 (codes "ran") then (number_upto 10 w.2 >>= λ n. Some (outcome.Ran n.0))
      else if bytes_eq w.0 (codes "refused") then Some outcome.Refused
      else if bytes_eq w.0 (codes "no-slot") then (number_upto 10 w.2 >>= λ n. Some (outcome.NoSlot n.0))
      else if bytes_eq w.0 (codes "no-memory") then Some outcome.NoMemory
      else None

unfoldable pub turn_at : List ℕ → Option (Option TurnWord)
turn_at bs = do
  w ← word_at bs
  if bytes_eq w.0 (codes "-") then Some None
      else if bytes_eq w.0 (codes "unblock") then Some (Some turn.Unblock)
      else if bytes_eq w.0 (codes "process") then Some (Some turn.Process)
      else if bytes_eq w.0 (codes "desaturate") then Some (Some turn.Desaturate)
      else if bytes_eq w.0 (codes "output") then Some (Some turn.Output)
      else if bytes_eq w.0 (codes "flushed") then Some (Some turn.Flushed)
      else if bytes_eq w.0 (codes "dequeue") then Some (Some turn.Dequeue)
      else if bytes_eq w.0 (codes "close") then (error_at w.2 >>= λ e. Some (Some (turn.Close e)))
      else None

unfoldable pub start_at : List ℕ → Option EntryLine
start_at bs = do
  epoch ← number_upto 46 bs
  item ← number_upto 10 epoch.1
  Some (entry_line.Start epoch.0 item.0)

unfoldable pub done_at : List ℕ → Option EntryLine
done_at bs = do
  epoch ← number_upto 46 bs
  item ← number_upto 32 epoch.1
  moment ← number_upto 32 item.1
  outcome ← outcome_at moment.1
  Some (entry_line.Done epoch.0 item.0 moment.0 outcome)

unfoldable pub call_at : ScriptData → ℕ → List ℕ → ℕ → List ℕ → List ℕ → Option Line
call_at script place name m w bs = do
  caller ← caller_of script.callers name
  step ← short m
  word ← call_of w
  rest ← after (codes "= ") bs
  error ← answer_at rest
  Some (line.Entry place (entry_line.Call (record { caller = caller; step = step }) word error))

unfoldable pub take_at : ScriptData → ℕ → List ℕ → ℕ → List ℕ → Option Line
take_at script place name m bs = do
  caller ← caller_of script.callers name
  step ← short m
  rest ← after (codes "= ") bs
  unit ← number_upto 10 rest
  Some (line.Entry place (entry_line.Take (record { caller = caller; step = step }) unit.0))

-- what stands behind the word is as it is written
unfoldable pub ground_at : ScriptData → ℕ → List ℕ → ℕ → List ℕ → Option Line
ground_at script place name m bs = do
  caller ← caller_of script.callers name
  step ← short m
  w ← word_at bs
  to ← ground_named w.0
  Some (line.Entry place (entry_line.Ground (record { caller = caller; step = step }) to))

-- Entries of the registry and of the pool of media.

abbrev pub by_as : Option ℕ → ScriptData → List ℕ → ℕ → Option By
by_as None script name m = codec_of script.codecs name >>= λ n. Some (by.Codec n m)
by_as (Some caller) script name m = short m >>= λ step. Some (by.Caller (record { caller = caller; step = step }))

-- a caller of the name, or else a codec
abbrev pub by_of : ScriptData → List ℕ → ℕ → Option By
by_of script name m = by_as (caller_of script.callers name) script name m

unfoldable pub coder_at : List ℕ → Option (CoderId × List ℕ)
coder_at bs = do
  r ← word_at bs
  role ← role_of r.0
  c ← word_at r.2
  id ← codec_id_of c.0
  Some (record { role = role; codec = id }, c.2)

unfoldable pub refused_at : CoderId → List ℕ → Option SlotOp
refused_at id bs = do
  out ← number_upto 32 bs
  made ← number_upto 10 out.1
  Some (slot.Refused id out.0 made.0)

unfoldable pub acquired_at : List ℕ → Option SlotOp
acquired_at bs = do
  id ← coder_at bs
  w ← word_at id.1
  if list_all is_ascii_digit w.0 then (number_upto 10 id.1 >>= λ n. Some (slot.Acquire id.0 n.0)) else refused_at id.0 w.2

unfoldable pub given_at : List ℕ → Option SlotOp
given_at bs = do
  id ← coder_at bs
  n ← number_upto 10 id.1
  Some (slot.Give id.0 n.0)

unfoldable pub op_at : List ℕ → List ℕ → Option SlotOp
op_at w bs = if bytes_eq w (codes "acquire") then acquired_at bs else given_at bs

unfoldable pub slot_at : ScriptData → ℕ → List ℕ → ℕ → List ℕ → List ℕ → Option Line
slot_at script place name m w bs = do
  who ← by_of script name m
  op ← op_at w bs
  Some (line.Slot place (record { by = who; op = op }))

unfoldable pub made_at : List ℕ → Option PoolOp
made_at bs = do
  resource ← number_upto 32 bs
  reference ← number_upto 10 resource.1
  Some (pool.Make resource.0 reference.0)

unfoldable pub cloned_at : List ℕ → Option PoolOp
cloned_at bs = do
  resource ← number_upto 32 bs
  reference ← number_upto 10 resource.1
  Some (pool.Clone resource.0 reference.0)

unfoldable pub ended_at : List ℕ → Option PoolOp
ended_at bs = do
  resource ← number_upto 32 bs
  reference ← number_upto 32 resource.1
  w ← word_at reference.1
  last ← last_of w.0
  Some (pool.End resource.0 reference.0 last)

unfoldable pub pool_op_at : List ℕ → List ℕ → Option PoolOp
pool_op_at w bs =
    if bytes_eq w (codes "make") then made_at bs
    else if bytes_eq w (codes "clone") then cloned_at bs
    else ended_at bs

unfoldable pub reference_at : ScriptData → ℕ → List ℕ → ℕ → List ℕ → List ℕ → Option Line
reference_at script place name m w bs = do
  who ← by_of script name m
  op ← pool_op_at w bs
  Some (line.Reference place (record { by = who; op = op }))

-- Lines with a number.

abbrev pub is_slot_word : List ℕ → Bool
is_slot_word w = bytes_eq w (codes "acquire") || bytes_eq w (codes "give")

abbrev pub is_pool_word : List ℕ → Bool
is_pool_word w = bytes_eq w (codes "make") || bytes_eq w (codes "clone") || bytes_eq w (codes "end")

unfoldable pub dotted_line_at : ScriptData → ℕ → List ℕ → List ℕ → Option Line
dotted_line_at script n name bs = do
  m ← number_upto 32 bs
  w ← word_at m.1
  if w.1 == 10 then call_result_at script n name m.0 w.0
      else if is_slot_word w.0 then slot_at script n name m.0 w.0 w.2
      else if is_pool_word w.0 then reference_at script n name m.0 w.0 w.2
      else if bytes_eq w.0 (codes "unit") then unit_at script n name m.0 w.2
      else if bytes_eq w.0 (codes "take") then take_at script n name m.0 w.2
      else if bytes_eq w.0 (codes "ground") then ground_at script n name m.0 w.2
      else call_at script n name m.0 w.0 w.2

-- the step that posted what was received
unfoldable pub poster_at : ScriptData → List ℕ → Option Who
poster_at script bs = do
  name ← word_at bs
  c ← caller_of script.callers name.0
  step ← short_upto 10 name.2
  Some (record { caller = c; step = step.0 })

unfoldable pub worded_result_at : ScriptData → ℕ → List ℕ → List ℕ → Option Line
worded_result_at script n w rest =
    if bytes_eq w (codes "size") then (number_upto 10 rest >>= λ m. Some (line.Result n (result.Size m.0)))
    else if bytes_eq w (codes "absent") then Some (line.Result n result.Absent)
    else if bytes_eq w (codes "from") then (poster_at script rest >>= λ who. Some (line.Result n (result.From who)))
    else if bytes_eq w (codes "none") then Some (line.Result n result.Nothing)
    else (answer_of w >>= λ a. Some (line.Result n (result.Local a)))

unfoldable pub worded_line_at : ScriptData → ℕ → List ℕ → List ℕ → Option Line
worded_line_at script n w rest =
    if bytes_eq w (codes "start") then (start_at rest >>= λ e. Some (line.Entry n e))
    else if bytes_eq w (codes "done") then (done_at rest >>= λ e. Some (line.Entry n e))
    else if bytes_eq w (codes "turn") then (turn_at rest >>= λ t. Some (line.Entry n (entry_line.Turn t)))
    else if bytes_eq w (codes "reclaim") then (number_upto 10 rest >>= λ m. Some (line.Entry n (entry_line.Reclaim m.0)))
    else worded_result_at script n w rest

-- behind the number a name with a dot, a name with a colon, or another word
unfoldable pub numbered_line_at : ScriptData → List ℕ → Option Line
numbered_line_at script bs = do
  n ← number_upto 32 bs
  w ← word_at n.1
  if w.1 == 46 then dotted_line_at script n.0 w.0 w.2
      else if w.1 == 58 then look_line_at script n.0 w.0 w.2
      else if bytes_eq w.0 (codes "copied") then copied_line_at n.0 w.2
      else worded_line_at script n.0 w.0 w.2

-- What an entry showed.

-- the duration of samples is told by their shape
unfoldable pub sound_at : List ℕ → Option EventLine
sound_at bs = do
  w ← word_at bs
  format ← sample_format_of w.0
  rate ← short_upto 32 w.2
  channels ← short_upto 32 rate.1
  frames ← short_upto 32 channels.1
  timestamp ← signed_upto 32 frames.1
  duration ← number_or_dash_upto 32 timestamp.1
  bytes ← bytes_upto 10 duration.1
  Some (event_line.Sound (record { shape = record { format = format; rate = rate.0; channels = channels.0; frames = frames.0; timestamp = timestamp.0 }; bytes = bytes.0 }))

unfoldable pub image_at : List ℕ → Option EventLine
image_at bs = do
  w ← word_at bs
  format ← picture_format_of w.0
  width ← short_upto 32 w.2
  height ← short_upto 32 width.1
  timestamp ← signed_upto 32 height.1
  duration ← number_or_dash_upto 32 timestamp.1
  bytes ← bytes_upto 10 duration.1
  Some (event_line.Image (record { shape = record { format = format; width = width.0; height = height.0; timestamp = timestamp.0; duration = duration.0 }; bytes = bytes.0 }))

unfoldable pub chunk_at : List ℕ → Option EventLine
chunk_at bs = do
  w ← word_at bs
  key ← key_of w.0
  timestamp ← signed_upto 32 w.2
  duration ← number_or_dash_upto 32 timestamp.1
  bytes ← bytes_upto 10 duration.1
  Some (event_line.Chunk (record { key = key; timestamp = timestamp.0; duration = duration.0; bytes = bytes.0 }))

unfoldable pub output_at : List ℕ → Option EventLine
output_at bs = do
  w ← word_at bs
  if bytes_eq w.0 (codes "audio") then sound_at w.2
      else if bytes_eq w.0 (codes "video") then image_at w.2
      else chunk_at w.2

-- the text, where it has no line feed
abbrev pub without_feed : List ℕ → Option (List ℕ)
without_feed text = if list_all is_no_feed text then Some text else None

unfoldable pub config_at : List ℕ → Option EventLine
config_at bs = do
  name ← upto 32 bs
  codec ← without_feed name.0
  rate ← short_upto 32 name.1
  channels ← short_upto 32 rate.1
  description ← bytes_upto 10 channels.1
  Some (event_line.Config codec rate.0 channels.0 description.0)

unfoldable pub reject_at : List ℕ → Option EventLine
reject_at bs = do
  p ← number_upto 32 bs
  e ← error_at p.1
  Some (event_line.Reject p.0 e)

unfoldable pub event_at : List ℕ → Option EventLine
event_at bs = do
  w ← word_at bs
  if bytes_eq w.0 (codes "output") then output_at w.2
      else if bytes_eq w.0 (codes "config") then config_at w.2
      else if bytes_eq w.0 (codes "resolve") then (number_upto 10 w.2 >>= λ p. Some (event_line.Resolve p.0))
      else if bytes_eq w.0 (codes "reject") then reject_at w.2
      else if bytes_eq w.0 (codes "dequeue") then Some event_line.Dequeue
      else if bytes_eq w.0 (codes "error") then (error_at w.2 >>= λ e. Some (event_line.Error e))
      else None

unfoldable pub event_line_at : List ℕ → Option Line
event_line_at bs = do
  rest ← after (codes " ") bs
  s ← event_at rest
  Some (line.Event s)

-- Lines that begin with a word.

unfoldable pub codec_at : ScriptData → List ℕ → Option Line
codec_at script bs = do
  name ← word_at bs
  n ← codec_of script.codecs name.0
  w ← word_at name.2
  kind ← kind_named w.0
  saturation ← short_upto 10 w.2
  Some (line.Codec n (record { kind = kind; saturation = saturation.0 }))

unfoldable pub caller_at : ScriptData → List ℕ → Option Line
caller_at script bs = do
  name ← word_at bs
  n ← caller_of script.callers name.0
  Some (line.Caller n)

unfoldable pub headed_line_at : ScriptData → List ℕ → List ℕ → Option Line
headed_line_at script w rest =
    if bytes_eq w (codes "wcrun") then Some line.Header
    else if bytes_eq w (codes "caller") then caller_at script rest
    else if bytes_eq w (codes "codec") then codec_at script rest
    else if bytes_eq w (codes "pool") then Some line.Pool
    else if bytes_eq w (codes "slots") then Some line.Slots
    else if bytes_eq w (codes "held") then (number_upto 10 rest >>= λ n. Some (line.Held n.0))
    else if bytes_eq w (codes "end") then Some line.End
    else None

-- the only line that can stand in front
unfoldable pub only_line_at : ScriptData → List ℕ → Option Line
only_line_at script bs = do
  w ← word_at bs
  if bytes_eq w.0 [] then event_line_at w.2
      else if list_all is_ascii_digit w.0 then numbered_line_at script bs
      else headed_line_at script w.0 w.2

-- the line whose text stands in front, and the bytes behind it
unfoldable pub line_at : ScriptData → List ℕ → Option (Line × List ℕ)
line_at script bs = do
  found ← only_line_at script bs
  rest ← after (line_text script found) bs
  Some (found, rest)
