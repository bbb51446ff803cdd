-- The step that an object spells, after the steps before it, and the chunk files mentioned with it. What is wrong in shape
-- is found first, then a name that an earlier step gave, then unknown names.
use Rattle.std.specs.Prelude.{ℕ, ◌&&◌, not, Bool, List, codes, Option, Some, None, if◌then◌else◌, Result, Ok}
use Rattle.serde_json.specs.Data.{Data}
use Rattle.script_types.specs.declared.script.CodecItem.{CodecItem}
use Rattle.script_types.specs.declared.script.PortItem.{PortItem}
use Rattle.script_types.specs.declared.steps.BufferedInit.{BufferedInit}
use Rattle.script_types.specs.declared.steps.VariableKind.TheVariants as holds
use Rattle.script_types.specs.declared.steps.MediaStep.TheVariants as media
use Rattle.script_types.specs.declared.steps.ChunkSource.{ChunkSource}
use Rattle.script_types.specs.declared.steps.ChunkSource.TheVariants as source
use Rattle.script_types.specs.declared.steps.Step.{Step}
use Rattle.script_types.specs.declared.steps.Step.TheVariants as step
use Rattle.script_types.specs.declared.steps.Variable.{Variable}
use Rattle.script_types.specs.Names.{codec_named, decodes}
use Rattle.script_steps.specs.declared.source.SourceWords.{SourceWords}
use Rattle.script_steps.specs.declared.source.SourceWords.TheVariants as words
use Rattle.chunk_files.specs.declared.fault.Stop.{Stop}
use Rattle.script_types.specs.declared.fault.Wrong.{Wrong}
use Rattle.script_steps.specs.Members.{and_then, needed as there, known, name_in, object_in}
use Rattle.script_steps.specs.ConfigRead.{config_of}
use Rattle.script_steps.specs.Sources.{has, source_of}
use Rattle.script_steps.specs.Buffers.{has_buffers, buffered_of}
use Rattle.script_steps.specs.Files.{file_number, with_file}
use Rattle.script_steps.specs.declared.words.StepWord.{StepWord}
use Rattle.script_steps.specs.declared.words.StepWord.TheVariants as word
use Rattle.script_steps.specs.declared.references.Needed.TheVariants as needed
use Rattle.script_steps.specs.Words.{word_in}
use Rattle.script_steps.specs.References.{unused, variable_in, on_of, ground_on, bound_on, given_to}
use Rattle.script_steps.specs.MediaSteps.{media_by}

abbrev pub configure_of : List CodecItem → Data → Result Step (Stop Wrong)
configure_of codecs d =
    and_then (name_in (codes "on") d) (λ on. and_then (object_in (codes "config") d) (λ object.
    and_then (known (codec_named codecs on)) (λ codec.
    and_then (config_of codec.kind object) (λ config. Ok (step.Configure codec.number config)))))

abbrev pub decode_of : List CodecItem → List Step → Data → Result Step (Stop Wrong)
decode_of codecs before d = and_then (given_to decodes (codes "chunk") needed.Chunk codecs before d) (λ g. Ok (step.Decode g.0 g.1))

abbrev pub flush_of : List CodecItem → List Step → Data → Result Step (Stop Wrong)
flush_of codecs before d = and_then (bound_on codecs before d) (λ b. Ok (step.Flush b.0.number b.1))

-- the promise that a step names
abbrev pub promise_in : List Step → Data → Result Variable (Stop Wrong)
promise_in before d = variable_in (codes "promise") needed.Promise before d

-- ---- chunks

-- a chunk's source with the file numbered, and the files mentioned with it
abbrev pub numbered : List (List ℕ) → SourceWords → ChunkSource × List (List ℕ)
numbered files (words.Init init) = (source.Init init, files)
numbered files (words.File name index) = (source.File (file_number files name) index, with_file files name)

abbrev pub plain_chunk_of : List (List ℕ) → List Step → Data → Result (Step × List (List ℕ)) (Stop Wrong)
plain_chunk_of files before d =
    and_then (name_in (codes "as") d) (λ name. and_then (source_of d) (λ source. and_then (unused before name) (λ bind.
    Ok (step.Chunk bind (numbered files source).0, (numbered files source).1))))

-- a chunk whose init names buffers is a step on media; without a value of the init it is refused
abbrev pub chunk_with_buffers : List ℕ × Option BufferedInit → Step
chunk_with_buffers b = elim (b.1) [ None ↦ step.Chunk b.0 (source.Init None) | Some i ↦ step.Media (media.Buffered b.0 i) ]

-- just `init` is there, and it names buffers
abbrev pub is_buffered_chunk : Data → Bool
is_buffered_chunk d = has_buffers d && (not (has (codes "file") d) && not (has (codes "index") d))

-- ---- by the word

-- a step that mentions no file
abbrev pub no_file : List (List ℕ) → Result Step (Stop Wrong) → Result (Step × List (List ℕ)) (Stop Wrong)
no_file files r = and_then r (λ s. Ok (s, files))

abbrev pub chunk_step_of : List (List ℕ) → List Step → Data → Result (Step × List (List ℕ)) (Stop Wrong)
chunk_step_of files before d =
    if is_buffered_chunk d then no_file files (and_then (buffered_of holds.Chunk before d) (λ b. Ok (chunk_with_buffers b)))
    else plain_chunk_of files before d

abbrev pub step_by : List CodecItem → List (Option PortItem) → List (List ℕ) → List Step → Data → StepWord → Result (Step × List (List ℕ)) (Stop Wrong)
step_by codecs ports files before d word.Configure = no_file files (configure_of codecs d)
step_by codecs ports files before d word.Chunk = chunk_step_of files before d
step_by codecs ports files before d word.Decode = no_file files (decode_of codecs before d)
step_by codecs ports files before d word.Flush = no_file files (flush_of codecs before d)
step_by codecs ports files before d word.Poll = no_file files (and_then (promise_in before d) (λ promise. Ok (step.Poll promise)))
step_by codecs ports files before d word.Await = no_file files (and_then (promise_in before d) (λ promise. Ok (step.Await promise)))
step_by codecs ports files before d word.Reset = no_file files (and_then (on_of codecs d) (λ on. Ok (step.Reset on)))
step_by codecs ports files before d word.Close = no_file files (and_then (on_of codecs d) (λ on. Ok (step.Close on)))
step_by codecs ports files before d word.State = no_file files (and_then (on_of codecs d) (λ on. Ok (step.State on)))
step_by codecs ports files before d word.Ground = no_file files (and_then (ground_on codecs d) (λ g. Ok (step.Ground g.0 g.1)))
step_by codecs ports files before d (word.Media m) = no_file files (and_then (media_by codecs ports before d m) (λ s. Ok (step.Media s)))

abbrev pub step_of : List CodecItem → List (Option PortItem) → List (List ℕ) → List Step → Data → Result (Step × List (List ℕ)) (Stop Wrong)
step_of codecs ports files before d = and_then (there (word_in d)) (step_by codecs ports files before d)
