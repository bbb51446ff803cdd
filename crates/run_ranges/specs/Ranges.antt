-- What of a script, its media and its boxes has to be within its type, so that all of a run is (our choice: the types are those
-- that carry these values).
use Rattle.std.specs.Prelude.{ℕ, ◌≡◌, ◌<◌, ◌^◌, List, length, Option, Some, None, IsTrue}
use Rattle.std.specs.List.{AllByRecursion, slice_get}
use Rattle.std.specs.Int.Signed.{mag}
use Rattle.hex.specs.Hex.{IsBytes}
use Rattle.wc_base.specs.declared.media.PictureShape.{PictureShape}
use Rattle.wc_base.specs.declared.media.SoundShape.{SoundShape}
use Rattle.wc_config.specs.declared.codec.CoderId.{CoderId}
use Rattle.wc_config.specs.declared.config.Config.{Config}
use Rattle.wc_config.specs.declared.config.Config.TheVariants as config
use Rattle.wc_chunk.specs.declared.chunk.Chunk.{Chunk}
use Rattle.script_types.specs.declared.script.OrderItem.{OrderItem}
use Rattle.script_types.specs.declared.script.OrderItem.TheVariants as item
use Rattle.script_types.specs.declared.script.ScriptData.{ScriptData}
use Rattle.script_types.specs.declared.steps.PictureInit.{PictureInit}
use Rattle.script_types.specs.declared.steps.BufferedInit.{BufferedInit}
use Rattle.script_types.specs.declared.steps.InitData.{InitData}
use Rattle.script_types.specs.declared.steps.InitData.TheVariants as init_data
use Rattle.script_types.specs.declared.steps.InitShape.{InitShape}
use Rattle.script_types.specs.declared.steps.InitShape.TheVariants as init_shape
use Rattle.script_types.specs.declared.steps.SoundInit.{SoundInit}
use Rattle.script_types.specs.declared.steps.MediaStep.TheVariants as media_step
use Rattle.script_types.specs.declared.steps.Step.{Step}
use Rattle.script_types.specs.declared.steps.Step.TheVariants as step
use Rattle.script_types.specs.Sound.{is_sound}
use Rattle.run_model.specs.declared.run.Run.{Run}
use Rattle.trace_text.specs.Report.{lines_of}
use Rattle.run_model.specs.Fits.{FitsInOrder, IsLegalRun}
use Rattle.report_lines.specs.FieldLaws.{FitsOrAbsent}
use Rattle.report_lines.specs.Fits.{FitsLine}
use Rattle.run_model.specs.Recorded.{steps_of, chunk_by}
use Rattle.run_model.specs.Follow.{order_items}

-- a moment of an item, if it has one, has 64 bits
abbrev pub IsMoment : OrderItem → Type 0
IsMoment (item.Done k moment) = moment < 2 ^ 64
IsMoment (item.Reclaim k moment) = moment < 2 ^ 64
IsMoment x = Unit {0}

abbrev pub IsSizeWithin : Option ℕ → Type 0
IsSizeWithin None = Unit {0}
IsSizeWithin (Some n) = n < 2 ^ 32

-- a codec's rate, channels and block size, or its width and height, have 32 bits
abbrev pub IsConfigWithin : Config → Type 0
IsConfigWithin (config.AudioDecoder c) = (c.rate < 2 ^ 32) × (c.channels < 2 ^ 32)
IsConfigWithin (config.AudioEncoder c) = (c.rate < 2 ^ 32) × (c.channels < 2 ^ 32) × (c.block_size < 2 ^ 32)
IsConfigWithin (config.VideoDecoder c) = IsSizeWithin c.width × IsSizeWithin c.height
IsConfigWithin x = Unit {0}

-- a timestamp has 64 bits with its sign, and a duration 64; what it holds is bytes
abbrev pub IsChunkWithin : Chunk → Type 0
IsChunkWithin c = (mag c.timestamp < 2 ^ 63) × FitsOrAbsent c.duration × IsBytes c.bytes

-- as many frames as 32 bits count, and a timestamp of 64 bits with its sign
abbrev pub IsShapeWithin : SoundShape → Type 0
IsShapeWithin s = (s.frames < 2 ^ 32) × (mag s.timestamp < 2 ^ 63)

-- a timestamp of 64 bits with its sign, and a duration of 64
abbrev pub IsPictureWithin : PictureShape → Type 0
IsPictureWithin s = (mag s.timestamp < 2 ^ 63) × FitsOrAbsent s.duration

-- what an init says apart from its data
abbrev pub IsInitWithin : InitShape → Type 0
IsInitWithin (init_shape.Chunk key timestamp duration) = (mag timestamp < 2 ^ 63) × FitsOrAbsent duration
IsInitWithin (init_shape.Sound shape) = IsShapeWithin shape
IsInitWithin (init_shape.Picture shape) = IsPictureWithin shape

-- its data, where that is no buffer
abbrev pub IsDataWithin : InitData → Type 0
IsDataWithin (init_data.Hex bytes) = IsBytes bytes
IsDataWithin (init_data.Buffer v) = Unit {0}

-- The script's moments, configs, audio data and chunks are within their types, and those of its chunk files are: chunks, audio
-- data and frames hold bytes and have a timestamp of 64 bits, audio data a number of frames of 32, and a frame a duration of 64, if
-- one. So are the inits that name buffers. A buffer holds bytes, fewer than 2^64, and there are fewer boxes than that.
pub record AreWithin (s : ScriptData) (media : List (List Chunk)) (made : List CoderId) : Type 0 where
  pub moments : (i : ℕ) (x : OrderItem) → slice_get (order_items s) i ≡ Some x → IsMoment x
  pub configs : (c j on : ℕ) (config : Config) → slice_get (steps_of s c) j ≡ Some (step.Configure on config) → IsConfigWithin config
  pub chunks : (c j : ℕ) (x : Step) (chunk : Chunk) → slice_get (steps_of s c) j ≡ Some x → chunk_by media x ≡ Some chunk → IsChunkWithin chunk
  pub sounds : (c j : ℕ) (bind : List ℕ) (init : SoundInit) → slice_get (steps_of s c) j ≡ Some (step.Media (media_step.Audio bind (Some init))) → IsShapeWithin init.shape × IsBytes init.content
  pub frames : (c j : ℕ) (bind : List ℕ) (init : PictureInit) → slice_get (steps_of s c) j ≡ Some (step.Media (media_step.Frame bind (Some init))) → IsPictureWithin init.shape × IsBytes init.content
  pub buffers : (c j : ℕ) (bind bytes : List ℕ) → slice_get (steps_of s c) j ≡ Some (step.Media (media_step.Buffer bind bytes)) → IsBytes bytes × (length bytes < 2 ^ 64)
  pub inits : (c j : ℕ) (bind : List ℕ) (i : BufferedInit) → slice_get (steps_of s c) j ≡ Some (step.Media (media_step.Buffered bind i)) → IsInitWithin i.shape × IsDataWithin i.content
  pub boxes : length made < 2 ^ 64

-- the lines of a legal replay of a script in which nothing is at fault fit the script
abbrev pub LegalRunsFit : Type 0
LegalRunsFit =
    (script : ScriptData) (media : List (List Chunk)) (made : List CoderId) (run : Run) → IsTrue (is_sound script) → AreWithin script media made → IsLegalRun script run → FitsInOrder script media made run → AllByRecursion (FitsLine script) (lines_of run)
