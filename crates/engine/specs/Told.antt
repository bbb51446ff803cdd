-- What steps, outputs and ends of promises tell.
use Rattle.std.specs.Prelude.{ℕ, ◌≡◌, ◌≤◌, ◌<◌, ◌++◌, ◌⊎◌, Bool, true, false}
use Rattle.std.specs.Prelude.{List, [], ◌∷◌, length, drop, pos}
use Rattle.std.specs.Prelude.{Option, Some, None, is_some, unwrap_or, slice_get}
use Rattle.codec_definitions.specs.declared.unit.Unit as media
use Rattle.codec_definitions.specs.declared.unit.Unit.TheVariants as unit
use Rattle.wc_base.specs.declared.media.Samples.{Samples}
use Rattle.wc_chunk.specs.declared.chunk.Chunk.{Chunk}
use Rattle.wc_config.specs.declared.config.AudioDecoderConfig.{AudioDecoderConfig}
use Rattle.codec_model.specs.declared.entry.PromiseEnd.{PromiseEnd}
use Rattle.codec_model.specs.declared.entry.Shown.{Shown}
use Rattle.codec_model.specs.declared.entry.Task.{Task}
use Rattle.codec_model.specs.declared.entry.Task.TheVariants as task
use Rattle.codec_model.specs.Shown.{units_in, ends_of}
use Rattle.engine.specs.declared.answers.Reply.{Reply}
use Rattle.engine.specs.declared.answers.Turn.{Turn}
use Rattle.engine.specs.declared.answers.Output.{Output}
use Rattle.engine.specs.declared.answers.ChunkOutput.{ChunkOutput}
use Rattle.engine.specs.declared.answers.ConfigOutput.{ConfigOutput}
use Rattle.engine.specs.declared.answers.Settled.{Settled}
use Rattle.engine.specs.declared.answers.Look.{Look}
use Rattle.engine.specs.Codes.{done, refused, too_small}
use Rattle.engine.specs.Codes.{exception_code, word_code, word_error, format_code}

-- ---- answers that tell no more than a status

abbrev pub no_reply : ℕ → Reply
no_reply s = record { status = s; error = 0; place = 0; settled = 0 }

abbrev pub no_turn : ℕ → Turn
no_turn s = record { status = s; word = 0; error = 0; outputs = 0; settled = 0; place = 0 }

abbrev pub no_output : ℕ → Output
no_output s = record {
  status = s;
  format = 0;
  rate = 0;
  channels = 0;
  frames = 0;
  timestamp = pos 0;
  size = 0;
}

abbrev pub no_chunk : ℕ → ChunkOutput
no_chunk s = record {
  status = s;
  key = 0;
  has_duration = 0;
  has_config = 0;
  timestamp = pos 0;
  duration = 0;
  size = 0;
}

abbrev pub no_config : ℕ → ConfigOutput
no_config s = record { status = s; rate = 0; channels = 0; has_description = 0; size = 0 }

abbrev pub unsettled : ℕ → Settled
unsettled s = record { status = s; error = 0; promise = 0 }

abbrev pub no_look : ℕ → Look
no_look s = record { status = s; phase = 0; size = 0; entries = 0 }

-- ---- what a step shows

-- the outputs that a task delivers which does not close the codec
abbrev pub task_outputs : Task → List media.Unit
task_outputs (task.Output units) = units
task_outputs (task.Flushed promise units) = units
task_outputs _ = []

-- the promise that a task resolves which does not close the codec
abbrev pub resolved_by : Task → List PromiseEnd
resolved_by (task.Flushed promise units) = record { promise = promise; error = None } ∷ []
resolved_by _ = []

-- which task ran, the error of one that closed the codec, and how many outputs and ends of
-- promises it shows
pub record Told (s : Shown) (t : Turn) : Type 0 where
  pub word_is : t.word ≡ word_code s.turn
  pub error_is : t.error ≡ word_error s.turn
  pub outputs_are : t.outputs ≡ length (units_in s.events)
  pub settled_are : t.settled ≡ length (ends_of s.events)

-- bytes stand at the front of the room, if they fit; the rest of it is as it was
pub record IsPut (bytes old new : List ℕ) (status : ℕ) : Type 0 where
  pub fits : status ≡ done → new ≡ bytes ++ drop (length bytes) old
  pub enough : status ≡ done → length bytes ≤ length old
  pub small : status ≡ too_small → (length old < length bytes) × (new ≡ old)
  pub status_is : (status ≡ done) ⊎ (status ≡ too_small)

-- samples, whose bytes are put
pub record IsOutput (s : Samples) (old new : List ℕ) (o : Output) : Type 0 where
  pub format : o.format ≡ format_code s.shape.format
  pub rate : o.rate ≡ s.shape.rate
  pub channels : o.channels ≡ s.shape.channels
  pub frames : o.frames ≡ s.shape.frames
  pub timestamp : o.timestamp ≡ s.shape.timestamp
  pub size : o.size ≡ length s.bytes
  pub put : IsPut s.bytes old new o.status

-- 1 where it holds, and else 0
abbrev pub flag : Bool → ℕ
flag true = 1
flag false = 0

-- a chunk, whose bytes are put, and whether it carries a decoder config
pub record IsChunk (c : Chunk) (config : Option AudioDecoderConfig) (old new : List ℕ)
    (o : ChunkOutput) : Type 0 where
  pub key : o.key ≡ flag c.key
  pub has_duration : o.has_duration ≡ flag (is_some c.duration)
  pub duration : o.duration ≡ unwrap_or c.duration 0
  pub has_config : o.has_config ≡ flag (is_some config)
  pub timestamp : o.timestamp ≡ c.timestamp
  pub size : o.size ≡ length c.bytes
  pub put : IsPut c.bytes old new o.status

-- a decoder config, of which these bytes are put
pub record IsConfigOutput (c : AudioDecoderConfig) (bytes old new : List ℕ) (o : ConfigOutput)
    : Type 0 where
  pub rate : o.rate ≡ c.rate
  pub channels : o.channels ≡ c.channels
  pub has_description : o.has_description ≡ flag (is_some c.description)
  pub size : o.size ≡ length bytes
  pub put : IsPut bytes old new o.status

-- there is no such output, and the room is as it was; or there is, of samples
abbrev pub OfUnit : Option media.Unit → List ℕ → List ℕ → Output → Type 0
OfUnit (Some (unit.Sound s)) old new o = IsOutput s old new o
OfUnit _ old new o = (o ≡ no_output refused) × (new ≡ old)

-- an output, by its number among those that were shown
abbrev pub OutputTold : Shown → ℕ → List ℕ → List ℕ → Output → Type 0
OutputTold s number old new o = OfUnit (slice_get (units_in s.events) number) old new o

-- there is no such output, and the room is as it was; or there is, of a chunk
abbrev pub OfCoded : Option media.Unit → List ℕ → List ℕ → ChunkOutput → Type 0
OfCoded (Some (unit.Coded c config)) old new o = IsChunk c config old new o
OfCoded _ old new o = (o ≡ no_chunk refused) × (new ≡ old)

-- a chunk, by its number among the outputs that were shown
abbrev pub ChunkTold : Shown → ℕ → List ℕ → List ℕ → ChunkOutput → Type 0
ChunkTold s number old new o = OfCoded (slice_get (units_in s.events) number) old new o

-- the decoder config that an output carries
abbrev pub config_in : Option media.Unit → Option AudioDecoderConfig
config_in (Some (unit.Coded c config)) = config
config_in _ = None

abbrev pub codec_string : AudioDecoderConfig → List ℕ
codec_string c = c.codec

-- the bytes of a description; none where there is none
abbrev pub description_of : AudioDecoderConfig → List ℕ
description_of c = unwrap_or c.description []

-- no decoder config, and the room is as it was; or one, of which this part is put
abbrev pub OfConfig :
    (AudioDecoderConfig → List ℕ) → Option AudioDecoderConfig → List ℕ → List ℕ → ConfigOutput
    → Type 0
OfConfig part None old new o = (o ≡ no_config refused) × (new ≡ old)
OfConfig part (Some c) old new o = IsConfigOutput c (part c) old new o

-- the decoder config of an output, by its number among those that were shown
abbrev pub ConfigTold :
    (AudioDecoderConfig → List ℕ) → Shown → ℕ → List ℕ → List ℕ → ConfigOutput → Type 0
ConfigTold part s number old new o =
    OfConfig part (config_in (slice_get (units_in s.events) number)) old new o

-- an end of a promise: the promise, and the error with which it was rejected
abbrev pub settled_of : Option PromiseEnd → Settled
settled_of None = unsettled refused
settled_of (Some e) = record {
  status = done;
  error = exception_code e.error;
  promise = e.promise;
}
