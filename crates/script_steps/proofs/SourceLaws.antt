-- What is made of an init holds no more than the inline data.
use Rattle.std.proofs.Common.{◌≡◌, ◌≤◌, ℕ, codes, Bool, true, false, List, Option, Some, option_and_then, Ok, IfOk, sym, subst, arith}
use Rattle.serde_json.specs.{Data.Data, Find.get}
use Rattle.script_types.specs.Sound.{bytes_of_chunk, bytes_of_source, bytes_of_sound, bytes_of_picture}
use Rattle.script_steps.specs.{declared.source.SourceWords.SourceWords, Words.byte_count, Steps.numbered}
use Rattle.script_steps.specs.Members.{and_then, needed, required, hex_of, object_in, text_in}
use Rattle.wc_base.specs.declared.media.SoundShape.{SoundShape}
use Rattle.wc_base.specs.declared.media.PictureShape.{PictureShape}
use Rattle.script_types.specs.declared.steps.InitShape.{InitShape}
use Rattle.script_steps.specs.Media.{data_value, data_of_init, data_of_step, content_in, chunk_shape_of, chunk_with, chunk_of, sound_shape_of, sound_with, sound_of, picture_shape_of, picture_with, picture_of}
use Rattle.script_steps.specs.Sources.{has, index_in, source_by, source_of}
use Rattle.script_steps.proofs.ReferenceLaws.{by_part, made}

-- ---- the content of an init

content_is : (o : Option Data) (c : Option (List ℕ)) → required data_value o ≡ Ok c → option_and_then hex_of o ≡ c
content_is o c h = grind (arith, h)

-- an init that is made of its content is no greater than its data
of_content : {A : Type 0} → (bytes : A → ℕ) (d : Data) (make : Option (List ℕ) → A) → ((c : Option (List ℕ)) → bytes (make c) ≤ byte_count c)
    → IfOk (and_then (content_in d) (λ c. Ok (make c))) (λ i. bytes i ≤ byte_count (data_of_init d))
of_content bytes d make small = by_part (content_in d) _ _ (λ c e. subst (λ x. bytes (make c) ≤ byte_count x) (sym (content_is (get (codes "data") d) c e)) (small c))

chunk_few : (shape : Option InitShape) (c : Option (List ℕ)) → bytes_of_chunk (chunk_with shape c) ≤ byte_count c
chunk_few (Some (InitShape.Chunk key timestamp duration)) (Some c) = omega arith
chunk_few _ _ = omega arith

chunk_bytes : (d : Data) → IfOk (chunk_of d) (λ i. bytes_of_chunk i ≤ byte_count (data_of_init d))
chunk_bytes d = by_part (chunk_shape_of d) _ _ (λ shape s. of_content bytes_of_chunk d (chunk_with shape) (chunk_few shape))

sound_few : (shape : Option SoundShape) (c : Option (List ℕ)) → bytes_of_sound (sound_with shape c) ≤ byte_count c
sound_few (Some s) (Some c) = omega arith
sound_few _ _ = omega arith

pub sound_bytes : (d : Data) → IfOk (sound_of d) (λ i. bytes_of_sound i ≤ byte_count (data_of_init d))
sound_bytes d = by_part (sound_shape_of d) _ _ (λ shape s. of_content bytes_of_sound d (sound_with shape) (sound_few shape))

picture_few : (shape : Option PictureShape) (c : Option (List ℕ)) → bytes_of_picture (picture_with shape c) ≤ byte_count c
picture_few (Some s) (Some c) = omega arith
picture_few _ _ = omega arith

pub picture_bytes : (d : Data) → IfOk (picture_of d) (λ i. bytes_of_picture i ≤ byte_count (data_of_init d))
picture_bytes d = by_part (picture_shape_of d) _ _ (λ shape s. of_content bytes_of_picture d (picture_with shape) (picture_few shape))

-- ---- the init of a step

-- the step's inline data is that of its init
pub step_data : (d init : Data) → object_in (codes "init") d ≡ Ok init → data_of_init init ≡ data_of_step d
step_data d init h = grind (arith, h)

-- ---- the source of a chunk

abbrev IsSmall : List (List ℕ) → Data → SourceWords → Type 0
IsSmall files d s = bytes_of_source (numbered files s).0 ≤ byte_count (data_of_step d)

bytes_by : (init file index : Bool) (files : List (List ℕ)) (d : Data) → IfOk (source_by init file index d) (IsSmall files d)
bytes_by true false false files d =
    by_part (object_in (codes "init") d) _ _ (λ object o. made (chunk_of object) _ _ _ (chunk_bytes object)
    (λ i small. subst (λ c. bytes_of_chunk i ≤ byte_count c) (step_data d object o) small))
bytes_by false true true files d = by_part (needed (text_in (codes "file") d)) _ _ (λ file f. by_part (index_in d) _ _ (λ index i. omega arith))
bytes_by _ _ _ files d = tt

pub source_bytes : (files : List (List ℕ)) (d : Data) → IfOk (source_of d) (IsSmall files d)
source_bytes files d = bytes_by (has (codes "init") d) (has (codes "file") d) (has (codes "index") d) files d
