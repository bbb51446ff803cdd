-- Which lines are read again: numbers within their types, numbers of callers and codecs that the script has, and bytes.
use Rattle.std.specs.Prelude.{ℕ, ◌≡◌, ◌<◌, ◌^◌, ◌⊎◌, ◌==◌, Bool, true, not, List, length}
use Rattle.std.specs.List.{list_all}
use Rattle.std.specs.Int.Signed.{mag}
use Rattle.hex.specs.Hex.{IsBytes}
use Rattle.wc_base.specs.declared.who.Who.{Who}
use Rattle.wc_base.specs.declared.who.By.{By}
use Rattle.wc_base.specs.declared.who.By.TheVariants as by
use Rattle.wc_base.specs.declared.media.SoundShape.{SoundShape}
use Rattle.wc_base.specs.declared.media.PictureShape.{PictureShape}
use Rattle.wc_video.specs.declared.layout.PlaneLayout.{PlaneLayout}
use Rattle.wc_video.specs.declared.layout.Layouts.{Layouts}
use Rattle.wc_pool.specs.declared.entry.PoolOp.{PoolOp}
use Rattle.wc_pool.specs.declared.entry.PoolOp.TheVariants as pool
use Rattle.coder_api.specs.declared.slot.SlotOp.{SlotOp}
use Rattle.coder_api.specs.declared.slot.SlotOp.TheVariants as slot
use Rattle.codec_model.specs.declared.entry.Outcome.{Outcome}
use Rattle.codec_model.specs.declared.entry.Outcome.TheVariants as outcome
use Rattle.script_types.specs.declared.script.ScriptData.{ScriptData}
use Rattle.report_text.specs.declared.result.StepResult.{StepResult}
use Rattle.report_text.specs.declared.result.StepResult.TheVariants as result
use Rattle.report_text.specs.Names.{caller_name, codec_name}
use Rattle.report_lines.specs.Words.{is_word_byte}
use Rattle.report_lines.specs.FieldLaws.{Lacks, FitsOrAbsent}
use Rattle.report_text.specs.declared.line.EntryLine.{EntryLine}
use Rattle.report_text.specs.declared.line.EntryLine.TheVariants as entry_line
use Rattle.report_text.specs.declared.line.EventLine.{EventLine}
use Rattle.report_text.specs.declared.line.EventLine.TheVariants as event_line
use Rattle.report_text.specs.declared.line.Line.{Line}
use Rattle.report_text.specs.declared.line.Line.TheVariants as line

-- the names of callers and codecs are words, and all differ
pub record AreNames (script : ScriptData) : Type 0 where
  pub callers_differ : (i j : ℕ) → i < length script.callers → j < length script.callers → caller_name script.callers i ≡ caller_name script.callers j → i ≡ j
  pub codecs_differ : (i j : ℕ) → i < length script.codecs → j < length script.codecs → codec_name script.codecs i ≡ codec_name script.codecs j → i ≡ j
  pub apart : (i j : ℕ) → i < length script.callers → j < length script.codecs → caller_name script.callers i ≡ codec_name script.codecs j → ⊥
  pub callers_are_words : (i : ℕ) → i < length script.callers → list_all is_word_byte (caller_name script.callers i) ≡ true
  pub codecs_are_words : (i : ℕ) → i < length script.codecs → list_all is_word_byte (codec_name script.codecs i) ≡ true

abbrev pub IsCaller : ScriptData → ℕ → Type 0
IsCaller script n = (n < length script.callers) × (n < 2 ^ 32)

abbrev pub IsCodec : ScriptData → ℕ → Type 0
IsCodec script n = (n < length script.codecs) × (n < 2 ^ 32)

abbrev pub FitsWho : ScriptData → Who → Type 0
FitsWho script who = IsCaller script who.caller × (who.step < 2 ^ 32)

abbrev pub FitsLayout : PlaneLayout → Type 0
FitsLayout l = (l.offset < 2 ^ 32) × (l.stride < 2 ^ 32)

abbrev pub no_layout : PlaneLayout
no_layout = record { offset = 0; stride = 0 }

-- the planes of a frame are three, or two with a third of zeros
pub record FitsLayouts (l : Layouts) : Type 0 where
  pub planes : ((l.count ≡ 2) × (l.third ≡ no_layout)) ⊎ (l.count ≡ 3)
  pub first : FitsLayout l.first
  pub second : FitsLayout l.second
  pub third : FitsLayout l.third

abbrev pub FitsResult : ScriptData → StepResult → Type 0
FitsResult script (result.Call n place error) = IsCodec script n × (place < 2 ^ 64)
FitsResult script (result.Local error) = Unit {0}
FitsResult script (result.Look n len end) = IsCodec script n × (len < 2 ^ 64)
FitsResult script (result.State n len state size) = IsCodec script n × (len < 2 ^ 64) × (size < 2 ^ 64)
FitsResult script (result.Unit n place number) = IsCodec script n × (place < 2 ^ 64) × (number < 2 ^ 64)
FitsResult script (result.NoUnit n len) = IsCodec script n × (len < 2 ^ 64)
FitsResult script (result.Copied n bytes) = (n < 2 ^ 64) × IsBytes bytes
FitsResult script (result.CopiedFrame n layouts bytes) = (n < 2 ^ 64) × FitsLayouts layouts × IsBytes bytes
FitsResult script (result.Size n) = n < 2 ^ 64
FitsResult script (result.From who) = FitsWho script who
FitsResult script result.Nothing = Unit {0}
FitsResult script result.Absent = Unit {0}

abbrev pub FitsOutcome : Outcome → Type 0
FitsOutcome (outcome.Ran units) = units < 2 ^ 64
FitsOutcome outcome.Refused = Unit {0}
FitsOutcome (outcome.NoSlot entry) = entry < 2 ^ 64
FitsOutcome outcome.NoMemory = Unit {0}

abbrev pub FitsEntryLine : ScriptData → EntryLine → Type 0
FitsEntryLine script (entry_line.Call who call error) = FitsWho script who
FitsEntryLine script (entry_line.Take who unit) = FitsWho script who × (unit < 2 ^ 64)
FitsEntryLine script (entry_line.Ground who to) = FitsWho script who
FitsEntryLine script (entry_line.Start epoch item) = (epoch < 2 ^ 64) × (item < 2 ^ 64)
FitsEntryLine script (entry_line.Done epoch item moment outcome) = (epoch < 2 ^ 64) × (item < 2 ^ 64) × (moment < 2 ^ 64) × FitsOutcome outcome
FitsEntryLine script (entry_line.Turn word) = Unit {0}
FitsEntryLine script (entry_line.Reclaim moment) = moment < 2 ^ 64

pub record FitsSound (shape : SoundShape) (bytes : List ℕ) : Type 0 where
  pub rate : shape.rate < 2 ^ 32
  pub channels : shape.channels < 2 ^ 32
  pub frames : shape.frames < 2 ^ 32
  pub timestamp : mag shape.timestamp < 2 ^ 63
  pub are_bytes : IsBytes bytes

pub record FitsImage (shape : PictureShape) (bytes : List ℕ) : Type 0 where
  pub width : shape.width < 2 ^ 32
  pub height : shape.height < 2 ^ 32
  pub timestamp : mag shape.timestamp < 2 ^ 63
  pub duration : FitsOrAbsent shape.duration
  pub are_bytes : IsBytes bytes

abbrev pub is_no_feed : ℕ → Bool
is_no_feed b = not (b == 10)

-- a config's codec has no blank and no line feed
abbrev pub FitsEventLine : EventLine → Type 0
FitsEventLine (event_line.Sound samples) = FitsSound samples.shape samples.bytes
FitsEventLine (event_line.Image picture) = FitsImage picture.shape picture.bytes
FitsEventLine (event_line.Chunk chunk) = (mag chunk.timestamp < 2 ^ 63) × FitsOrAbsent chunk.duration × IsBytes chunk.bytes
FitsEventLine (event_line.Config codec rate channels description) = Lacks 32 codec × (list_all is_no_feed codec ≡ true) × (rate < 2 ^ 32) × (channels < 2 ^ 32) × IsBytes description
FitsEventLine (event_line.Resolve promise) = promise < 2 ^ 64
FitsEventLine (event_line.Reject promise error) = promise < 2 ^ 64
FitsEventLine event_line.Dequeue = Unit {0}
FitsEventLine (event_line.Error error) = Unit {0}

abbrev pub FitsBy : ScriptData → By → Type 0
FitsBy script (by.Caller who) = FitsWho script who
FitsBy script (by.Codec n place) = IsCodec script n × (place < 2 ^ 64)

abbrev pub FitsPoolOp : PoolOp → Type 0
FitsPoolOp (pool.Make resource reference) = (resource < 2 ^ 64) × (reference < 2 ^ 64)
FitsPoolOp (pool.Clone resource reference) = (resource < 2 ^ 64) × (reference < 2 ^ 64)
FitsPoolOp (pool.End resource reference last) = (resource < 2 ^ 64) × (reference < 2 ^ 64)

abbrev pub FitsOp : SlotOp → Type 0
FitsOp (slot.Acquire id number) = number < 2 ^ 64
FitsOp (slot.Refused id out made) = (out < 2 ^ 64) × (made < 2 ^ 64)
FitsOp (slot.Give id number) = number < 2 ^ 64

abbrev pub FitsLine : ScriptData → Line → Type 0
FitsLine script line.Header = Unit {0}
FitsLine script (line.Caller n) = IsCaller script n
FitsLine script (line.Result step found) = (step < 2 ^ 64) × FitsResult script found
FitsLine script (line.Codec n opening) = IsCodec script n × (opening.saturation < 2 ^ 32)
FitsLine script (line.Entry place entry) = (place < 2 ^ 64) × FitsEntryLine script entry
FitsLine script (line.Event shown) = FitsEventLine shown
FitsLine script line.Pool = Unit {0}
FitsLine script (line.Reference place entry) = (place < 2 ^ 64) × FitsBy script entry.by × FitsPoolOp entry.op
FitsLine script line.Slots = Unit {0}
FitsLine script (line.Slot place entry) = (place < 2 ^ 64) × FitsBy script entry.by × FitsOp entry.op
FitsLine script (line.Held n) = n < 2 ^ 64
FitsLine script line.End = Unit {0}
