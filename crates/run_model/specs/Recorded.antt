-- What a run recorded, and what its script gives its callers and codecs.
use Rattle.std.specs.Prelude.{ℕ, zero, suc, List, [], ◌∷◌, slice_get, Option, Some, None, option_map, option_and_then}
use Rattle.wc_base.specs.declared.error.DomError.{DomError}
use Rattle.wc_base.specs.declared.error.DomError.TheVariants as dom
use Rattle.wc_base.specs.declared.who.Who.{Who}
use Rattle.wc_chunk.specs.declared.chunk.Chunk.{Chunk}
use Rattle.codec_definitions.specs.declared.unit.Unit as media
use Rattle.coder_api.specs.declared.slot.SlotEntry.{SlotEntry}
use Rattle.codec_model.specs.declared.entry.Opening.{Opening}
use Rattle.codec_model.specs.declared.entry.Call.TheVariants as call
use Rattle.codec_model.specs.declared.entry.PromiseState.{PromiseState}
use Rattle.codec_model.specs.declared.entry.Entry.{Entry}
use Rattle.codec_model.specs.declared.entry.Entry.TheVariants as entry
use Rattle.codec_model.specs.Control.{no_opening}
use Rattle.codec_model.specs.Shown.{shown, outputs_of, ends_in, promise_state}
use Rattle.codec_accounts.specs.Owed.{at}
use Rattle.script_types.specs.declared.script.ScriptData.{ScriptData}
use Rattle.script_types.specs.declared.script.CodecItem.{CodecItem}
use Rattle.script_types.specs.declared.script.CallerItem.{CallerItem}
use Rattle.script_types.specs.declared.steps.ChunkInit.{ChunkInit}
use Rattle.script_types.specs.declared.steps.ChunkSource.{ChunkSource}
use Rattle.script_types.specs.declared.steps.ChunkSource.TheVariants as source
use Rattle.script_types.specs.declared.steps.Step.{Step}
use Rattle.script_types.specs.declared.steps.MediaStep.{MediaStep}
use Rattle.script_types.specs.declared.steps.Step.TheVariants as step
use Rattle.report_text.specs.declared.result.StepResult.{StepResult}
use Rattle.wc_pool.specs.declared.entry.PoolEntry.{PoolEntry}
use Rattle.media_variables.specs.Variables.{Medium, Received, chunk_in, chunk_of_variable}

-- What was recorded so far: each caller's results, each codec's history, the pool's of media, and the registry's. What the steps of
-- callers received from ports, by caller and step, no report shows but for the posts that it names.
pub record Recorded : Type 0 where
  pub callers : List (List StepResult)
  pub codecs : List (List Entry)
  pub pool : List PoolEntry
  pub slots : List SlotEntry
  pub received : ℕ → ℕ → Option Received

-- nothing was received
abbrev pub none_received : ℕ → ℕ → Option Received
none_received c j = None

abbrev pub opening_of : CodecItem → Opening
opening_of c = record { kind = c.kind; saturation = c.saturation }

-- how the codec with this number is opened
abbrev pub opening_in : List CodecItem → ℕ → Opening
opening_in [] k = no_opening
opening_in (c ∷ cs) zero = opening_of c
opening_in (c ∷ cs) (suc k) = opening_in cs k

abbrev pub opening_at : ScriptData → ℕ → Opening
opening_at s k = opening_in s.codecs k

-- how a promise stands after a history
abbrev pub promise_after : Opening → List Entry → ℕ → PromiseState
promise_after o h promise = promise_state (ends_in (shown o h)) promise

-- the output that a codec showed with this number
abbrev pub output_at : Opening → List Entry → ℕ → Option media.Unit
output_at o h n = slice_get (outputs_of (shown o h)) n

-- the steps of the caller with this number
abbrev pub steps_in : List CallerItem → ℕ → List Step
steps_in [] c = []
steps_in (x ∷ xs) zero = x.steps
steps_in (x ∷ xs) (suc c) = steps_in xs c

abbrev pub steps_of : ScriptData → ℕ → List Step
steps_of s c = steps_in s.callers c

-- the chunk that an init makes (W3C WebCodecs, EncodedAudioChunk constructor)
abbrev pub chunk_of : ChunkInit → Chunk
chunk_of i = record { key = i.key; timestamp = i.timestamp; duration = i.duration; bytes = i.content }

-- the chunk that a source gives: one that is made, unless its init breaks a rule of WebIDL, or one of a chunk file.
-- `media` has the chunks of each of the script's files
abbrev pub chunk_from : List (List Chunk) → ChunkSource → Option Chunk
chunk_from media (source.Init init) = option_map chunk_of init
chunk_from media (source.File file index) = slice_get (at file media) index

-- the chunk that a step makes or takes from a file, if it does
abbrev pub chunk_by : List (List Chunk) → Step → Option Chunk
chunk_by media (step.Chunk bind source) = chunk_from media source
chunk_by media _ = None

-- the chunk of the variable that the step with this number defines; none where it is absent
abbrev pub chunk_at : List (List Chunk) → List Step → ℕ → Option Chunk
chunk_at media steps j = option_and_then (chunk_by media) (slice_get steps j)

-- the chunk of a variable: made by its step, taken from a chunk file, or, where `vs` has it, taken from an encoder
abbrev pub chunk_for : List (List Chunk) → List Step → List (Option Medium) → ℕ → Option Chunk
chunk_for media steps vs j = chunk_of_variable (chunk_at media steps j) vs j

-- the chunk that a step on media copies, if it copies one that was made or taken from a chunk file
abbrev pub copied_chunk : List (List Chunk) → List Step → MediaStep → Option Chunk
copied_chunk media steps x = option_and_then (chunk_at media steps) (chunk_in x)

-- the exception of a chunk's init, which breaks a rule of WebIDL or not
abbrev pub init_error : Option ChunkInit → Option DomError
init_error None = Some dom.TypeErr
init_error (Some i) = None

-- a chunk of a file has none
abbrev pub source_error : ChunkSource → Option DomError
source_error (source.Init init) = init_error init
source_error (source.File file index) = None

-- the entry of a take of the output with this number
abbrev pub take_entry : Who → ℕ → Entry
take_entry who n = entry.Call who (call.Take n)
