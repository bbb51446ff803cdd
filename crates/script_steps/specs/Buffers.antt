-- Inits that name array buffers: the data that is a buffer's, and the buffers that are taken over (W3C WebCodecs, the member
-- `transfer` of the three inits; how data names a buffer, and that an init lists at most 16, is our choice).
use Rattle.std.specs.Prelude.{ℕ, nat_le, Bool, false, List, [], ◌∷◌, ◌++◌, codes, if◌then◌else◌, Option, Some, None, option_and_then, ◌||◌, Result, Ok}
use Rattle.serde_json.specs.Data.{Data, Items, no_items, item}
use Rattle.serde_json.specs.Find.{get, as_str, as_array}
use Rattle.script_types.specs.declared.steps.Step.{Step}
use Rattle.script_types.specs.declared.steps.Variable.{Variable}
use Rattle.script_types.specs.declared.steps.VariableKind.{VariableKind}
use Rattle.script_types.specs.declared.steps.InitShape.{InitShape}
use Rattle.script_types.specs.declared.steps.InitData.{InitData}
use Rattle.script_types.specs.declared.steps.InitData.TheVariants as init_data
use Rattle.script_types.specs.declared.steps.BufferedInit.{BufferedInit}
use Rattle.script_types.specs.Sound.{most_transfer}
use Rattle.chunk_files.specs.declared.fault.Stop.{Stop}
use Rattle.script_types.specs.declared.fault.Wrong.{Wrong}
use Rattle.script_steps.specs.Members.{and_then, needed as there, known, checked_name, name_in, object_in, is_object, hex_of}
use Rattle.script_steps.specs.Counts.{count_of}
use Rattle.script_steps.specs.Media.{init_shape_of}
use Rattle.script_steps.specs.Sources.{has}
use Rattle.script_steps.specs.References.{unused, variable_if, variable_of}
use Rattle.script_steps.specs.declared.references.Needed.TheVariants as needed
use Rattle.script_steps.specs.declared.buffers.BufferWords.{BufferWords}
use Rattle.script_steps.specs.declared.buffers.DataWords.{DataWords}
use Rattle.script_steps.specs.declared.buffers.DataWords.TheVariants as words

-- ---- which inits name buffers

abbrev pub is_object_there : Option Data → Bool
is_object_there None = false
is_object_there (Some d) = is_object d

-- the init lists buffers, or its data is an object
abbrev pub names_buffers : Data → Bool
names_buffers init = has (codes "transfer") init || is_object_there (get (codes "data") init)

abbrev pub any_buffers : Option Data → Bool
any_buffers None = false
any_buffers (Some init) = names_buffers init

-- the step's init does
abbrev pub has_buffers : Data → Bool
has_buffers d = any_buffers (get (codes "init") d)

-- ---- what they name

-- a buffer by its name; what is named and is no buffer is a fault of shape
abbrev pub buffer_if : List Step → List ℕ → Result BufferWords (Stop Wrong)
buffer_if before name = and_then (variable_if needed.Buffer before name) (λ found. Ok (record { name = name; found = found }))

-- the data is hex text of these bytes, or an object that names a buffer
abbrev pub data_by : List Step → Data → Option (List ℕ) → Result (Option DataWords) (Stop Wrong)
data_by before d (Some bytes) = Ok (Some (words.Hex bytes))
data_by before d None = and_then (name_in (codes "buffer") d) (λ name. and_then (buffer_if before name) (λ b. Ok (Some (words.Buffer b))))

-- no value where it is missing
abbrev pub data_words : List Step → Option Data → Result (Option DataWords) (Stop Wrong)
data_words before None = Ok None
data_words before (Some d) = data_by before d (hex_of d)

-- all buffers of a list, where those before are given
abbrev pub listed_of : List Step → List BufferWords → Items → Result (List BufferWords) (Stop Wrong)
listed_of before so_far no_items = Ok so_far
listed_of before so_far (item d ds) =
    and_then (there (option_and_then checked_name (as_str d))) (λ name. and_then (buffer_if before name) (λ b.
    listed_of before (so_far ++ b ∷ []) ds))

abbrev pub few : Items → Option Items
few ds = if nat_le (count_of ds) most_transfer then Some ds else None

-- the list may be absent
abbrev pub transfer_words : List Step → Option Data → Result (List BufferWords) (Stop Wrong)
transfer_words before None = Ok []
transfer_words before (Some d) = and_then (there (option_and_then few (as_array d))) (listed_of before [])

-- ---- names that have to name something

abbrev pub known_buffer : BufferWords → Result Variable (Stop Wrong)
known_buffer b = and_then (known b.found) (λ found. Ok (variable_of b.name found))

abbrev pub known_data : Option DataWords → Result (Option InitData) (Stop Wrong)
known_data None = Ok None
known_data (Some (words.Hex bytes)) = Ok (Some (init_data.Hex bytes))
known_data (Some (words.Buffer b)) = and_then (known_buffer b) (λ v. Ok (Some (init_data.Buffer v)))

abbrev pub known_buffers : List Variable → List BufferWords → Result (List Variable) (Stop Wrong)
known_buffers so_far [] = Ok so_far
known_buffers so_far (b ∷ bs) = and_then (known_buffer b) (λ v. known_buffers (so_far ++ v ∷ []) bs)

-- ---- the init of a step

-- an init where each member has a value
abbrev pub buffered_with : Option InitShape → Option InitData → List Variable → Option BufferedInit
buffered_with (Some shape) (Some content) transfer = Some (record { shape = shape; content = content; transfer = transfer })
buffered_with _ _ transfer = None

-- the new name of a step with such an init, and the init, unless that breaks a rule of WebIDL
abbrev pub buffered_of : VariableKind → List Step → Data → Result (List ℕ × Option BufferedInit) (Stop Wrong)
buffered_of kind before d =
    and_then (name_in (codes "as") d) (λ name. and_then (object_in (codes "init") d) (λ object.
    and_then (init_shape_of kind object) (λ shape. and_then (data_words before (get (codes "data") object)) (λ data_words.
    and_then (transfer_words before (get (codes "transfer") object)) (λ listed. and_then (unused before name) (λ bind.
    and_then (known_data data_words) (λ content. and_then (known_buffers [] listed) (λ transfer.
    Ok (bind, buffered_with shape content transfer)))))))))
