-- A caller that takes a chunk of each of two chunk files.
use Rattle.std.specs.Prelude.{ℕ, List, [], ◌∷◌, codes}
use Rattle.script_types.specs.declared.steps.Step.TheVariants as step
use Rattle.script_types.specs.declared.steps.ChunkSource.TheVariants as source
use Rattle.script_types.specs.declared.script.CallerItem.{CallerItem}

abbrev pub two_names : List (List ℕ)
two_names = codes "x" ∷ codes "y" ∷ []

abbrev pub taker : CallerItem
taker = record { name = codes "a"; steps = step.Chunk (codes "c") (source.File 0 0) ∷ step.Chunk (codes "e") (source.File 1 0) ∷ [] }
