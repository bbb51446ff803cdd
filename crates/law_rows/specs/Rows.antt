-- Whole runs, and what the laws by places see of them.
use Rattle.std.specs.Prelude.{ℕ, ◌≡◌, true, false, pos, List, [], ◌∷◌, take, Some, None, codes}
use Rattle.wc_config.specs.declared.config.Config.{Config}
use Rattle.wc_config.specs.declared.config.Config.TheVariants as config
use Rattle.wc_chunk.specs.declared.chunk.Chunk.{Chunk}
use Rattle.wc_base.specs.declared.error.DomError.TheVariants as dom
use Rattle.wc_base.specs.declared.ground.Ground.TheVariants as grounds
use Rattle.codec_model.specs.declared.entry.Outcome.TheVariants as outcome
use Rattle.codec_model.specs.declared.entry.PromiseState.TheVariants as promise
use Rattle.codec_model.specs.declared.entry.Call.{Call}
use Rattle.codec_model.specs.declared.entry.Call.TheVariants as call
use Rattle.codec_model.specs.declared.entry.Entry.{Entry}
use Rattle.codec_model.specs.declared.entry.Entry.TheVariants as entry
use Rattle.codec_model.specs.declared.entry.Opening.{Opening}
use Rattle.wc_config.specs.declared.kind.Kind.TheVariants.{AudioDecoder}
use Rattle.codec_definitions.specs.declared.unit.Unit as media
use Rattle.codec_definitions.specs.declared.unit.Unit.TheVariants as unit
use Rattle.codec_definitions.specs.Answers.{units_of}
use Rattle.wc_base.specs.declared.media.SampleFormat.TheVariants.{S16}
use Rattle.codec_model.specs.Replay.{answers_to}
use Rattle.codec_model.specs.Shown.{shown, outputs_of}
use Rattle.codec_laws.specs.Laws.{calls_alone, flush_ends}
use Rattle.codec_laws.specs.Left.{left_after}
use Rattle.codec_laws.specs.Contents.{configuration_at}
use Rattle.codec_laws.specs.Sights.{sights, falls_at, dequeues_at}
use Rattle.codec_laws.specs.Sources.{given, outputs, end_from}

abbrev pub four : Opening
four = record { kind = AudioDecoder; saturation = 4 }

abbrev pub two : Opening
two = record { kind = AudioDecoder; saturation = 2 }

abbrev pub made : ℕ → Call → Entry
made j y = entry.Call (record { caller = 0; step = j }) y

abbrev pub pcm : Config
pcm = config.AudioDecoder (record { codec = codes "pcm-s16"; rate = 8000; channels = 1; description = None })

abbrev pub sample : ℕ → Chunk
sample n = record { key = true; timestamp = pos 0; duration = None; bytes = n ∷ 0 ∷ [] }

abbrev pub saturating : List Entry
saturating =
    made 0 (call.Configure pcm) ∷ made 1 (call.Decode (sample 1)) ∷ made 2 (call.Decode (sample 2)) ∷ made 3 (call.Decode (sample 3))
    ∷ entry.Start 0 0 ∷ entry.Done 0 0 1 (outcome.Ran 0) ∷ entry.Turn ∷ entry.Turn
    ∷ entry.Start 0 1 ∷ entry.Done 0 1 2 (outcome.Ran 1) ∷ entry.Start 0 2 ∷ entry.Done 0 2 3 (outcome.Ran 1)
    ∷ entry.Turn ∷ entry.Turn ∷ entry.Turn ∷ entry.Turn ∷ entry.Turn
    ∷ entry.Start 0 3 ∷ entry.Done 0 3 4 (outcome.Ran 1) ∷ entry.Turn ∷ []

-- The same calls where each item starts as soon as it may, and ends and shows what it gave before the next call. The third
-- chunk has this for its first byte.
abbrev pub early_with : ℕ → List Entry
early_with last =
    made 0 (call.Configure pcm) ∷ entry.Start 0 0 ∷ entry.Done 0 0 1 (outcome.Ran 0) ∷ entry.Turn ∷ entry.Turn
    ∷ made 1 (call.Decode (sample 1)) ∷ entry.Start 0 1 ∷ entry.Done 0 1 2 (outcome.Ran 1) ∷ entry.Turn ∷ entry.Turn
    ∷ made 2 (call.Decode (sample 2)) ∷ entry.Start 0 2 ∷ entry.Done 0 2 3 (outcome.Ran 1) ∷ entry.Turn ∷ entry.Turn
    ∷ made 3 (call.Decode (sample last)) ∷ entry.Start 0 3 ∷ entry.Done 0 3 4 (outcome.Ran 1) ∷ entry.Turn ∷ entry.Turn ∷ []

abbrev pub early : List Entry
early = early_with 3

-- the same, but for the third chunk
abbrev pub other : List Entry
other = early_with 4

abbrev pub resetting : List Entry
resetting =
    made 0 (call.Configure pcm) ∷ made 1 (call.Decode (sample 1))
    ∷ entry.Start 0 0 ∷ entry.Done 0 0 1 (outcome.Ran 0) ∷ entry.Turn ∷ entry.Turn ∷ entry.Start 0 1
    ∷ made 2 call.Reset ∷ made 3 (call.Configure pcm) ∷ made 4 (call.Decode (sample 2))
    ∷ entry.Done 0 1 2 (outcome.Ran 1) ∷ entry.Turn
    ∷ entry.Start 1 0 ∷ entry.Done 1 0 3 (outcome.Ran 0) ∷ entry.Turn ∷ entry.Turn
    ∷ entry.Start 1 1 ∷ entry.Done 1 1 4 (outcome.Ran 1) ∷ entry.Turn ∷ entry.Turn ∷ []

abbrev pub flushing : List Entry
flushing =
    made 0 (call.Configure pcm) ∷ made 1 (call.Decode (sample 1)) ∷ made 2 call.Flush
    ∷ entry.Start 0 0 ∷ entry.Done 0 0 1 (outcome.Ran 0) ∷ entry.Turn ∷ entry.Turn
    ∷ entry.Start 0 1 ∷ entry.Done 0 1 2 (outcome.Ran 1) ∷ entry.Start 0 2 ∷ entry.Done 0 2 3 (outcome.Ran 0)
    ∷ entry.Turn ∷ entry.Turn ∷ entry.Turn ∷ []

abbrev pub closing : List Entry
closing =
    made 0 (call.Configure pcm) ∷ made 1 call.Flush ∷ made 2 call.Flush ∷ made 3 call.Close
    ∷ made 4 call.Close ∷ made 5 call.Flush ∷ []

-- refused, as no codec has this name
abbrev pub opus : Config
opus = config.AudioDecoder (record { codec = codes "opus"; rate = 48000; channels = 2; description = None })

abbrev pub unsupported : List Entry
unsupported = made 0 (call.Configure opus) ∷ made 1 call.Flush ∷ entry.Start 0 0 ∷ entry.Done 0 0 5 outcome.Refused ∷ entry.Turn ∷ []

-- the output of a decode after a reset, though one before it was at work
abbrev pub ResettingPlaces : Type 0
ResettingPlaces = outputs (sights four resetting) ≡ record { source = record { call = 9; configure = 8; index = 0 }; turn = 19 } ∷ []

-- three outputs of one configuration
abbrev pub SaturatingPlaces : Type 0
SaturatingPlaces =
    outputs (sights two saturating)
    ≡ record { source = record { call = 1; configure = 0; index = 0 }; turn = 14 } ∷ record { source = record { call = 2; configure = 0; index = 1 }; turn = 15 } ∷ record { source = record { call = 3; configure = 0; index = 2 }; turn = 19 } ∷ []

abbrev pub sound : ℕ → media.Unit
sound n = unit.Sound (record { shape = record { format = S16; rate = 8000; channels = 1; frames = 1; timestamp = pos 0 }; bytes = n ∷ 0 ∷ [] })

abbrev pub sounds : ℕ → List media.Unit
sounds last = sound 1 ∷ sound 2 ∷ sound last ∷ []

-- the outputs of the same calls are the same, whenever they come
pub record EarlyShows : Type 0 where
  pub saturated : outputs_of (shown two saturating) ≡ sounds 3
  pub early_too : outputs_of (shown two early) ≡ sounds 3
  pub otherwise : outputs_of (shown two other) ≡ sounds 4
  pub ends : flush_ends two early ≡ flush_ends two saturating

-- where a codec is at work may differ
abbrev pub moved : List Entry
moved = made 4 (call.Ground grounds.Background) ∷ saturating

pub record MovedShows : Type 0 where
  pub calls : calls_alone moved ≡ calls_alone saturating
  pub outputs : outputs_of (shown two moved) ≡ sounds 3

-- the second of two outputs is the second that the definition gives for its calls
pub record SaturatingGiven : Type 0 where
  pub place : (configuration_at two saturating 2).place ≡ 0
  pub given : units_of (answers_to (configuration_at two saturating 2).given) ≡ sound 1 ∷ sound 2 ∷ []

-- two dequeue events, and the fall between them
pub record SaturatingFalls : Type 0 where
  pub first : dequeues_at (sights two saturating) 12 ≡ true
  pub second : dequeues_at (sights two saturating) 16 ≡ true
  pub falls : falls_at (sights two saturating) 13 ≡ true
  pub stays : falls_at (sights two saturating) 14 ≡ false

-- what a decode before a flush gave is shown before its promise is resolved
pub record FlushingEnds : Type 0 where
  pub gave : given (sights four flushing) ≡ record { call = 1; configure = 0; index = 0 } ∷ []
  pub shows : outputs (sights four flushing) ≡ record { source = record { call = 1; configure = 0; index = 0 }; turn = 12 } ∷ []
  pub ends : end_from 2 0 (sights four flushing) ≡ Some (13, promise.Resolved)

-- two promises that a close rejects, and one that is refused afterwards
pub record ClosingEnds : Type 0 where
  pub first : end_from 1 0 (sights four closing) ≡ Some (3, promise.Rejected dom.Abort)
  pub second : end_from 2 0 (sights four closing) ≡ Some (3, promise.Rejected dom.Abort)
  pub refused : end_from 5 0 (sights four closing) ≡ Some (5, promise.Rejected dom.InvalidState)

-- a promise that the turn of a close rejects
abbrev pub UnsupportedEnds : Type 0
UnsupportedEnds = end_from 1 0 (sights four unsupported) ≡ Some (4, promise.Rejected dom.NotSupported)

-- What is left after the first entries of a decode and a flush: behind the calls an item and two messages; then the item at
-- work; then a task that unblocks the queue; then one that processes it; then two items and the dequeue event. In the end
-- nothing is left.
pub record FlushingLeft : Type 0 where
  pub asked : left_after four (take 3 flushing) ≡ 18
  pub started : left_after four (take 4 flushing) ≡ 17
  pub ended : left_after four (take 5 flushing) ≡ 16
  pub unblocked : left_after four (take 6 flushing) ≡ 15
  pub processed : left_after four (take 7 flushing) ≡ 9
  pub none : left_after four flushing ≡ 0

-- after a reset all is done too, and in the run that is cut off one turn is left
pub record OthersLeft : Type 0 where
  pub resetting : left_after four resetting ≡ 0
  pub cut_off : left_after two (take 19 early) ≡ 1
