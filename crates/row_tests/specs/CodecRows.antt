-- The ordinary run: one configure, one decode, one flush.
use Rattle.std.specs.Prelude.{ℕ, ◌≡◌, true, false, pos, List, [], ◌∷◌, Some, None, is_some, option_map, codes}
use Rattle.wc_config.specs.declared.config.Config.{Config}
use Rattle.wc_config.specs.declared.config.Config.TheVariants as config
use Rattle.wc_chunk.specs.declared.chunk.Chunk.{Chunk}
use Rattle.wc_base.specs.declared.media.SampleFormat.TheVariants.{S16}
use Rattle.wc_base.specs.declared.who.Who.{Who}
use Rattle.wc_base.specs.declared.ground.Ground.{Ground}
use Rattle.wc_base.specs.declared.ground.Ground.TheVariants.{Foreground, Background, BackgroundEncoding}
use Rattle.wc_base.specs.declared.error.DomError.TheVariants as dom
use Rattle.codec_definitions.specs.declared.unit.Unit as media
use Rattle.codec_definitions.specs.declared.unit.Unit.TheVariants.{Sound}
use Rattle.codec_model.specs.declared.entry.CodecState.TheVariants.{Configured}
use Rattle.codec_model.specs.declared.entry.Outcome.TheVariants as outcome
use Rattle.codec_model.specs.declared.entry.Call.TheVariants as call
use Rattle.codec_model.specs.declared.entry.Entry.{Entry}
use Rattle.codec_model.specs.declared.entry.Entry.TheVariants as entry
use Rattle.codec_model.specs.declared.entry.Opening.{Opening}
use Rattle.wc_config.specs.declared.kind.Kind.TheVariants.{AudioDecoder}
use Rattle.codec_model.specs.Control.{Control}
use Rattle.codec_model.specs.Replay.{replay}
use Rattle.codec_model.specs.declared.entry.Event.TheVariants.{Output, Dequeue, Resolve, Reject, Refusal, ErrorCall}
use Rattle.codec_model.specs.Shown.{shown}

-- opened with saturation 4, or 2
abbrev pub four : Opening
four = record { kind = AudioDecoder; saturation = 4 }

abbrev pub two : Opening
two = record { kind = AudioDecoder; saturation = 2 }

abbrev pub step_of : ℕ → Who
step_of j = record { caller = 0; step = j }

abbrev pub pcm : Config
pcm = config.AudioDecoder (record { codec = codes "pcm-s16"; rate = 8000; channels = 1; description = None })

abbrev pub chunk : Chunk
chunk = record { key = true; timestamp = pos 0; duration = None; bytes = 1 ∷ 0 ∷ 2 ∷ 0 ∷ [] }

abbrev pub unit : media.Unit
unit = Sound (record { shape = record { format = S16; rate = 8000; channels = 1; frames = 2; timestamp = pos 0 }; bytes = 1 ∷ 0 ∷ 2 ∷ 0 ∷ [] })

abbrev pub ordinary : List Entry
ordinary =
    entry.Call (step_of 0) (call.Configure pcm) ∷ entry.Call (step_of 2) (call.Decode chunk) ∷ entry.Call (step_of 3) call.Flush
    ∷ entry.Start 0 0 ∷ entry.Done 0 0 1 (outcome.Ran 0) ∷ entry.Turn ∷ entry.Turn
    ∷ entry.Start 0 1 ∷ entry.Done 0 1 2 (outcome.Ran 1) ∷ entry.Turn ∷ entry.Turn
    ∷ entry.Start 0 2 ∷ entry.Done 0 2 3 (outcome.Ran 0) ∷ entry.Turn ∷ []

abbrev pub quiet_after : Control
quiet_after = record {
  place = 14;
  opening = four;
  phase = Configured;
  epoch = 0;
  key_required = true;
  messages = [];
  blocked = false;
  saturated = false;
  halted = false;
  size = 0;
  pending = [];
  work = [];
  next_item = 3;
  running = None;
  tasks = [];
  scheduled = false;
  shown = 1;
  taken = 0;
  active = None;
  progress = Some 3;
  own_ground = Foreground;
}

abbrev pub OrdinaryEnds : Type 0
OrdinaryEnds = option_map (λ s. s.control) (replay four ordinary) ≡ Some quiet_after

abbrev pub OrdinaryShows : Type 0
OrdinaryShows = shown four ordinary ≡ (9, Dequeue) ∷ (10, Output 0 unit) ∷ (13, Resolve 2) ∷ []

-- a wrong number of units is not legal
abbrev pub WrongCount : Type 0
WrongCount = replay four (entry.Call (step_of 0) (call.Configure pcm) ∷ entry.Start 0 0 ∷ entry.Done 0 0 1 (outcome.Ran 1) ∷ []) ≡ None

abbrev pub sample : ℕ → Chunk
sample n = record { key = true; timestamp = pos 0; duration = None; bytes = n ∷ 0 ∷ [] }

abbrev pub sample_unit : ℕ → media.Unit
sample_unit n = Sound (record { shape = record { format = S16; rate = 8000; channels = 1; frames = 1; timestamp = pos 0 }; bytes = n ∷ 0 ∷ [] })

abbrev pub saturating : List Entry
saturating =
    entry.Call (step_of 0) (call.Configure pcm) ∷ entry.Call (step_of 1) (call.Decode (sample 1)) ∷ entry.Call (step_of 2) (call.Decode (sample 2)) ∷ entry.Call (step_of 3) (call.Decode (sample 3))
    ∷ entry.Start 0 0 ∷ entry.Done 0 0 1 (outcome.Ran 0) ∷ entry.Turn ∷ entry.Turn
    ∷ entry.Start 0 1 ∷ entry.Done 0 1 2 (outcome.Ran 1) ∷ entry.Start 0 2 ∷ entry.Done 0 2 3 (outcome.Ran 1)
    ∷ entry.Turn ∷ entry.Turn ∷ entry.Turn ∷ entry.Turn ∷ entry.Turn
    ∷ entry.Start 0 3 ∷ entry.Done 0 3 4 (outcome.Ran 1) ∷ entry.Turn ∷ []

-- two falls of the size show one event, and one desaturate lets the third chunk through
abbrev pub SaturatingShows : Type 0
SaturatingShows = shown two saturating ≡ (12, Dequeue) ∷ (14, Output 0 (sample_unit 1)) ∷ (15, Output 1 (sample_unit 2)) ∷ (16, Dequeue) ∷ (19, Output 2 (sample_unit 3)) ∷ []

abbrev pub resetting : List Entry
resetting =
    entry.Call (step_of 0) (call.Configure pcm) ∷ entry.Call (step_of 1) (call.Decode (sample 1))
    ∷ entry.Start 0 0 ∷ entry.Done 0 0 1 (outcome.Ran 0) ∷ entry.Turn ∷ entry.Turn ∷ entry.Start 0 1
    ∷ entry.Call (step_of 2) call.Reset ∷ entry.Call (step_of 3) (call.Configure pcm) ∷ entry.Call (step_of 4) (call.Decode (sample 2))
    ∷ entry.Done 0 1 2 (outcome.Ran 1) ∷ entry.Turn
    ∷ entry.Start 1 0 ∷ entry.Done 1 0 3 (outcome.Ran 0) ∷ entry.Turn ∷ entry.Turn
    ∷ entry.Start 1 1 ∷ entry.Done 1 1 4 (outcome.Ran 1) ∷ entry.Turn ∷ entry.Turn ∷ []

-- nothing of a job from before the reset is shown
abbrev pub ResettingShows : Type 0
ResettingShows = shown four resetting ≡ (11, Dequeue) ∷ (18, Dequeue) ∷ (19, Output 0 (sample_unit 2)) ∷ []

abbrev pub closing : List Entry
closing =
    entry.Call (step_of 0) (call.Configure pcm) ∷ entry.Call (step_of 1) call.Flush ∷ entry.Call (step_of 2) call.Flush ∷ entry.Call (step_of 3) call.Close
    ∷ entry.Call (step_of 4) call.Close ∷ entry.Call (step_of 5) call.Flush ∷ []

abbrev pub ClosingShows : Type 0
ClosingShows = shown four closing ≡ (3, Reject 1 dom.Abort) ∷ (3, Reject 2 dom.Abort) ∷ (4, Refusal dom.InvalidState) ∷ (5, Reject 5 dom.InvalidState) ∷ []

-- a decoder that is told where it is at work, after its configure ended at 1000, and is reclaimed
abbrev pub told : Ground → ℕ → List Entry
told at moment =
    entry.Call (step_of 0) (call.Configure pcm) ∷ entry.Start 0 0 ∷ entry.Done 0 0 1000 (outcome.Ran 0) ∷ entry.Turn ∷ entry.Turn
    ∷ entry.Call (step_of 1) (call.Ground at) ∷ entry.Reclaim moment ∷ []

-- it is reclaimed at once in the background
abbrev pub BackgroundShows : Type 0
BackgroundShows = shown four (told Background 2000) ≡ (6, ErrorCall dom.QuotaExceeded) ∷ []

-- elsewhere it is spared for ten seconds
abbrev pub IsSpared : Ground → Type 0
IsSpared at = (replay four (told at 10000999) ≡ None) × (is_some (replay four (told at 10001000)) ≡ true)
