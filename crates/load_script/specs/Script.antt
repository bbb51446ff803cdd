-- The script of a load (our choice). Four callers, each with a decoder of its own, configure it, make and decode chunks of drawn
-- bytes, flush, await the flush, and take the outputs. The bytes are drawn caller by caller, chunk by chunk.
use Rattle.std.specs.Prelude.{ℕ, zero, suc, ◌+◌, ◌*◌, pos, true, List, [], ◌∷◌, ◌++◌, codes, decimal, Some, None}
use Rattle.wc_config.specs.declared.config.Config.TheVariants as config
use Rattle.wc_config.specs.declared.kind.Kind.TheVariants as kind
use Rattle.script_types.specs.declared.script.CodecItem.{CodecItem}
use Rattle.script_types.specs.declared.script.CallerItem.{CallerItem}
use Rattle.script_types.specs.declared.script.ScriptData.{ScriptData}
use Rattle.script_types.specs.declared.steps.ChunkSource.TheVariants as source
use Rattle.script_types.specs.declared.steps.MediaStep.TheVariants as media
use Rattle.script_types.specs.declared.steps.Step.{Step}
use Rattle.script_types.specs.declared.steps.Step.TheVariants as step
use Rattle.script_types.specs.declared.steps.Variable.{Variable}
use Rattle.script_types.specs.declared.steps.VariableKind.{VariableKind}
use Rattle.script_types.specs.declared.steps.VariableKind.TheVariants as holds
use Rattle.load_script.specs.Draws.{state_after, bytes_drawn}

-- ---- steps

-- the name of the variable that the step of this number defines
abbrev pub name_of : ℕ → List ℕ
name_of number = codes "v" ++ decimal number

-- the variable that the step of this number defines
abbrev pub variable : ℕ → VariableKind → Variable
variable number kind = record { name = name_of number; step = number; kind = kind }

-- a decoder's config: 8,000 frames a second of one channel
abbrev pub configures : ℕ → List ℕ → Step
configures on codec = step.Configure on (config.AudioDecoder (record { codec = codec; rate = 8000; channels = 1; description = None }))

-- the number of the step that makes the chunk of this number
abbrev pub maker : ℕ → ℕ
maker chunk = 2 * chunk + 1

-- a key chunk of 160 bytes drawn from this state; chunks are 20 milliseconds apart
abbrev pub makes : ℕ → ℕ → Step
makes chunk x =
    step.Chunk (name_of (maker chunk)) (source.Init (Some (record { key = true; timestamp = pos (20000 * chunk); duration = None; content = bytes_drawn 160 x })))

abbrev pub decodes : ℕ → ℕ → Step
decodes on chunk = step.Decode on (variable (maker chunk) holds.Chunk)

-- the steps that make and decode so many chunks, the first of which has this number and is drawn from this state
unfoldable pub chunk_steps : ℕ → ℕ → ℕ → ℕ → List Step
chunk_steps on zero chunk x = []
chunk_steps on (suc n) chunk x = makes chunk x ∷ decodes on chunk ∷ chunk_steps on n (suc chunk) (state_after 160 x)

-- a step of this number, which takes an output
abbrev pub takes : ℕ → ℕ → Step
takes on number = step.Media (media.Take on (name_of number) holds.Audio)

-- so many steps that take outputs, the first of which has this number
unfoldable pub take_steps : ℕ → ℕ → ℕ → List Step
take_steps on zero number = []
take_steps on (suc n) number = takes on number ∷ take_steps on n (suc number)

-- a flush, which is the step of this number, and the wait for it
abbrev pub flush_steps : ℕ → ℕ → List Step
flush_steps on number = step.Flush on (name_of number) ∷ step.Await (variable number holds.Promise) ∷ []

-- the steps of a caller with so many chunks
abbrev pub steps_with : ℕ → List ℕ → ℕ → ℕ → List Step
steps_with on codec n x = configures on codec ∷ (chunk_steps on n 0 x ++ (flush_steps on (maker n) ++ take_steps on n (maker n + 2)))

-- ---- codecs and callers

abbrev pub decoder : List ℕ → CodecItem
decoder name = record { name = name; kind = kind.AudioDecoder; saturation = 4 }

-- the caller of the decoder with this number, which draws from this state on
abbrev pub caller_from : ℕ → List ℕ → List ℕ → ℕ → ℕ → CallerItem
caller_from on name codec n x = record { name = name; steps = steps_with on codec n x }

-- each caller draws all its bytes before the next one does
abbrev pub caller : ℕ → List ℕ → List ℕ → ℕ → ℕ → CallerItem
caller on name codec n start = caller_from on name codec n (state_after (on * (n * 160)) start)

abbrev pub decoders : List CodecItem
decoders = decoder (codes "d0") ∷ decoder (codes "d1") ∷ decoder (codes "d2") ∷ decoder (codes "d3") ∷ []

abbrev pub callers : ℕ → ℕ → List CallerItem
callers start n =
    caller 0 (codes "c0") (codes "ulaw") n start ∷ caller 1 (codes "c1") (codes "alaw") n start
    ∷ caller 2 (codes "c2") (codes "pcm-s16") n start ∷ caller 3 (codes "c3") (codes "pcm-u8") n start ∷ []

-- the script of a load that begins with this state, with so many chunks for each caller; it has no order
abbrev pub load_script : ℕ → ℕ → ScriptData
load_script start n = record { codecs = decoders; callers = callers start n; order = None; chunk_files = []; ports = []; inline = 640 * n }
