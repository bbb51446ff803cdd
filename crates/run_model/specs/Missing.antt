-- The first step of a script that takes a chunk which its chunk file lacks (our choice: a script is not replayed then).
use Rattle.std.specs.Prelude.{ℕ, ◌+◌, List, [], ◌∷◌, slice_get, Option, Some, None, option_map, is_some, if◌then◌else◌}
use Rattle.std.specs.Option.{option_or}
use Rattle.wc_chunk.specs.declared.chunk.Chunk.{Chunk}
use Rattle.script_types.specs.declared.fault.Place.{Place}
use Rattle.script_types.specs.declared.fault.Place.TheVariants as place
use Rattle.script_types.specs.declared.script.CallerItem.{CallerItem}
use Rattle.script_types.specs.declared.script.ScriptData.{ScriptData}
use Rattle.script_types.specs.declared.steps.ChunkSource.{ChunkSource}
use Rattle.script_types.specs.declared.steps.ChunkSource.TheVariants as source
use Rattle.script_types.specs.declared.steps.Step.{Step}
use Rattle.script_types.specs.declared.steps.Step.TheVariants as step
use Rattle.codec_accounts.specs.Owed.{at}

-- the file that lacks the chunk of a source, if one does
abbrev pub lacking_source : List (List Chunk) → ChunkSource → Option ℕ
lacking_source media (source.Init init) = None
lacking_source media (source.File file index) = if is_some (slice_get (at file media) index) then None else Some file

abbrev pub lacking_step : List (List Chunk) → Step → Option ℕ
lacking_step media (step.Chunk bind source) = lacking_source media source
lacking_step media _ = None

abbrev pub missing_step : List (List Chunk) → ℕ → ℕ → List Step → Option (ℕ × Place)
missing_step media i j [] = None
missing_step media i j (s ∷ ss) = option_or (option_map (λ file. (file, place.Step i j)) (lacking_step media s)) (missing_step media i (j + 1) ss)

abbrev pub missing_caller : List (List Chunk) → ℕ → List CallerItem → Option (ℕ × Place)
missing_caller media i [] = None
missing_caller media i (c ∷ cs) = option_or (missing_step media i 0 c.steps) (missing_caller media (i + 1) cs)

-- The first step, caller by caller, that takes a chunk which its file lacks: the file's number, and the step's place.
-- `media` has the chunks of each of the script's files.
abbrev pub missing_in : ScriptData → List (List Chunk) → Option (ℕ × Place)
missing_in s media = missing_caller media 0 s.callers
