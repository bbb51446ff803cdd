-- Where a chunk comes from: it is made of `init`, or it is the chunk of number `index` of the chunk file `file`.
use Rattle.std.specs.Prelude.{ℕ, Bool, true, false, List, codes, option_and_then, is_some, Result, Ok, Err}
use Rattle.serde_json.specs.Data.{Data}
use Rattle.serde_json.specs.Find.{get}
use Rattle.script_steps.specs.declared.source.SourceWords.{SourceWords}
use Rattle.script_steps.specs.declared.source.SourceWords.TheVariants as source
use Rattle.chunk_files.specs.declared.fault.Stop.{Stop}
use Rattle.script_types.specs.declared.fault.Wrong.{Wrong}
use Rattle.chunk_files.specs.declared.fault.Stop.TheVariants as stop
use Rattle.script_types.specs.declared.fault.Wrong.TheVariants as wrong
use Rattle.script_steps.specs.Members.{and_then, needed, text_in, object_in, natural_of}
use Rattle.script_steps.specs.Media.{chunk_of}

abbrev pub has : List ℕ → Data → Bool
has key d = is_some (get key d)

-- the number of a chunk in its file
abbrev pub index_in : Data → Result ℕ (Stop Wrong)
index_in d = needed (option_and_then natural_of (get (codes "index") d))

abbrev pub made_of : Data → Result SourceWords (Stop Wrong)
made_of d = and_then (object_in (codes "init") d) (λ init. and_then (chunk_of init) (λ chunk. Ok (source.Init chunk)))

abbrev pub taken_of : Data → Result SourceWords (Stop Wrong)
taken_of d = and_then (needed (text_in (codes "file") d)) (λ file. and_then (index_in d) (λ index. Ok (source.File file index)))

-- by whether `init`, `file` and `index` are there: just `init`, or both of the others
abbrev pub source_by : Bool → Bool → Bool → Data → Result SourceWords (Stop Wrong)
source_by true false false d = made_of d
source_by false true true d = taken_of d
source_by _ _ _ d = Err (stop.Fault wrong.Shape)

abbrev pub source_of : Data → Result SourceWords (Stop Wrong)
source_of d = source_by (has (codes "init") d) (has (codes "file") d) (has (codes "index") d) d
