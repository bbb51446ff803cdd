-- Whole runs, followed.
use Rattle.std.specs.Prelude.{ℕ, ◌≡◌, true, pos, List, [], ◌∷◌, Some, None, is_some, codes, map, replicate, option_map}
use Rattle.wc_base.specs.declared.media.SampleFormat.TheVariants.{S16}
use Rattle.wc_config.specs.declared.config.Config.{Config}
use Rattle.wc_config.specs.declared.config.Config.TheVariants as config
use Rattle.codec_definitions.specs.declared.unit.Unit as media
use Rattle.codec_definitions.specs.declared.unit.Unit.TheVariants.{Coded}
use Rattle.codec_model.specs.declared.entry.Opening.{Opening}
use Rattle.codec_model.specs.declared.entry.HeldMedium.{HeldMedium}
use Rattle.codec_model.specs.declared.entry.MediaShape.TheVariants as media_shape
use Rattle.codec_model.specs.declared.entry.Handed.TheVariants as handed
use Rattle.codec_model.specs.declared.entry.Outcome.TheVariants as outcome
use Rattle.codec_model.specs.declared.entry.Call.TheVariants as call
use Rattle.codec_model.specs.declared.entry.Entry.{Entry}
use Rattle.codec_model.specs.declared.entry.Entry.TheVariants as entry
use Rattle.codec_model.specs.declared.entry.Event.TheVariants.{Output, Dequeue}
use Rattle.codec_model.specs.Shown.{each_shown}
use Rattle.row_tests.specs.CodecRows.{four, step_of, pcm, chunk, unit, ordinary, quiet_after}
use Rattle.codec_model.specs.Replay.{replay}
use Rattle.wc_config.specs.declared.kind.Kind.TheVariants as kind
use Rattle.codec_follow.specs.Follow.{follows, each_filled}
use Rattle.codec_follow.specs.Outputs.{empty_output}

-- the ordinary run follows
abbrev pub OrdinaryFollows : Type 0
OrdinaryFollows = option_map (λ s. s.control) (follows four ordinary) ≡ Some quiet_after

-- with its own output it shows what it shows
abbrev pub OrdinaryFills : Type 0
OrdinaryFills = each_filled four ordinary (unit ∷ []) ≡ each_shown four ordinary

-- a decode whose item is told to have given so many units
abbrev pub decoding : ℕ → List Entry
decoding units =
    entry.Call (step_of 0) (call.Configure pcm) ∷ entry.Call (step_of 1) (call.Decode chunk)
    ∷ entry.Start 0 0 ∷ entry.Done 0 0 1 (outcome.Ran 0) ∷ entry.Turn ∷ entry.Turn
    ∷ entry.Start 0 1 ∷ entry.Done 0 1 2 (outcome.Ran units) ∷ entry.Turn ∷ entry.Turn ∷ []

-- three units are told, two of them are given, and the third is shown with nothing in it
abbrev pub ThreeShown : Type 0
ThreeShown =
    map (λ x. x.events) (each_filled four (decoding 3) (unit ∷ unit ∷ []))
    ≡ [] ∷ [] ∷ [] ∷ [] ∷ [] ∷ [] ∷ [] ∷ [] ∷ (Dequeue ∷ []) ∷ (Output 0 unit ∷ Output 1 unit ∷ Output 2 (empty_output kind.AudioDecoder) ∷ []) ∷ []

-- a configure item gives no unit
abbrev pub ConfigureGivesNone : Type 0
ConfigureGivesNone = follows four (entry.Call (step_of 0) (call.Configure pcm) ∷ entry.Start 0 0 ∷ entry.Done 0 0 1 (outcome.Ran 1) ∷ []) ≡ None

-- a configure and a flush whose item is refused
abbrev pub refusing : Config → List Entry
refusing c =
    entry.Call (step_of 0) (call.Configure c) ∷ entry.Call (step_of 1) call.Flush ∷ entry.Start 0 0 ∷ entry.Done 0 0 1 (outcome.Ran 0) ∷ entry.Turn ∷ entry.Turn
    ∷ entry.Start 0 1 ∷ entry.Done 0 1 2 outcome.Refused ∷ []

abbrev pub raw_video : Config
raw_video = config.VideoDecoder (record { codec = codes "x-raw-i420"; width = Some 2; height = Some 2; aspect_width = None; aspect_height = None })

-- the flush of linear PCM is never refused
abbrev pub FlushIsAnswered : Type 0
FlushIsAnswered = follows four (refusing pcm) ≡ None

-- nor is that of raw video: such a refusal is not legal, and does not follow
abbrev pub VideoIsAnswered : Type 0
VideoIsAnswered = (replay four (refusing raw_video) ≡ None) × (follows four (refusing raw_video) ≡ None)

-- an encoder of FLAC, with blocks of 16 frames
abbrev pub encoder : Opening
encoder = record { kind = kind.AudioEncoder; saturation = 4 }

abbrev pub flac : Config
flac = config.AudioEncoder (record { codec = codes "flac"; rate = 8000; channels = 1; block_size = 16; level = 5; depth = 16 })

-- 32 frames, of which it holds a clone
abbrev pub silence : HeldMedium
silence = record {
  shape = media_shape.Sound (record { format = S16; rate = 8000; channels = 1; frames = 32; timestamp = pos 0 });
  bytes = replicate 64 0;
  pair = record { resource = 0; reference = 1 };
}

-- an encode whose item is told to have given so many units
abbrev pub encoding : ℕ → List Entry
encoding units =
    entry.Call (step_of 0) (call.Configure flac) ∷ entry.Call (step_of 1) (call.Encode (handed.Cloned silence))
    ∷ entry.Start 0 0 ∷ entry.Done 0 0 1 (outcome.Ran 0) ∷ entry.Turn ∷ entry.Turn
    ∷ entry.Start 0 1 ∷ entry.Done 0 1 2 (outcome.Ran units) ∷ entry.Turn ∷ entry.Turn ∷ []

-- the unit of a chunk
abbrev pub coded : media.Unit
coded = Coded chunk None

-- its samples make two blocks: with two units it is legal, and with one it is not
abbrev pub TwoBlocks : Type 0
TwoBlocks = (is_some (replay encoder (encoding 2)) ≡ true) × (replay encoder (encoding 1) ≡ None)

-- both are shown by one turn
abbrev pub TwoShown : Type 0
TwoShown =
    map (λ x. x.events) (each_filled encoder (encoding 2) (coded ∷ []))
    ≡ [] ∷ [] ∷ [] ∷ [] ∷ [] ∷ [] ∷ [] ∷ [] ∷ (Dequeue ∷ []) ∷ (Output 0 coded ∷ Output 1 (empty_output kind.AudioEncoder) ∷ []) ∷ []
