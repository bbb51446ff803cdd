-- What is known of an init that names buffers and was read.
use Rattle.std.proofs.Common.{◌≡◌, ◌≤◌, ◌+◌, ℕ, codes, Bool, true, false, if◌then◌else◌, List, [], ◌∷◌, ◌++◌, length, Option, Some, None, option_and_then, Result, Ok, IfOk, refl, subst, ◌∙◌, arith, length-append}
use Rattle.std.specs.Option.{IfSome}
use Rattle.std.specs.List.{list_all}
use Rattle.std.proofs.lemmas.Bool.{leb-true, le-leb}
use Rattle.std.proofs.lemmas.List.Folds.{list_all-append}
use Rattle.std.proofs.lemmas.Result.{IfOk-at_ok, IfOk-weaker}
use Rattle.serde_json.specs.{Data.Data, Data.Items, Data.no_items, Data.item, Find.get, Find.as_str, Find.as_array}
use Rattle.chunk_files.specs.declared.fault.Stop.{Stop}
use Rattle.script_types.specs.declared.{fault.Wrong.Wrong, steps.Step.Step, steps.Variable.Variable, steps.VariableKind.VariableKind, steps.InitShape.InitShape, steps.InitData.InitData, steps.BufferedInit.BufferedInit}
use Rattle.script_types.specs.Names.{is_buffer}
use Rattle.script_types.specs.Sound.{most_transfer, is_variable, is_free, is_sound_data, is_sound_init, bytes_of_data}
use Rattle.script_steps.specs.Members.{needed as there, known, checked_name, name_in, object_in, hex_of}
use Rattle.script_steps.specs.{Media.data_of_step, Media.init_shape_of, Words.byte_count}
use Rattle.script_steps.specs.{declared.references.Needed.Needed, declared.buffers.BufferWords.BufferWords}
use Rattle.script_steps.specs.References.{unused, variable_if}
use Rattle.script_steps.specs.Counts.{count_of}
use Rattle.script_steps.specs.Buffers.{buffer_if, data_by, data_words, listed_of, few, transfer_words, known_buffer, known_data, known_buffers, buffered_with, buffered_of}
use Rattle.script_steps.specs.Chains.{same_Ok, all_true}
use Rattle.script_steps.specs.NameLaws.{variable_is_right}
use Rattle.script_steps.proofs.ReferenceLaws.{by_part, new_name}
use Rattle.script_steps.proofs.SourceLaws.{step_data}

-- ---- single buffers

-- what is named is a buffer, where it is known
abbrev Right : List Step → BufferWords → Type 0
Right before b = IfOk (known_buffer b) (λ v. is_variable before is_buffer v ≡ true)

buffer_right : (before : List Step) (name : List ℕ) → IfOk (buffer_if before name) (Right before)
buffer_right before name =
    by_part (variable_if Needed.Buffer before name) _ _ (λ found m. by_part (known found) _ _ (λ f k. (variable_is_right before Needed.Buffer name found f m k).variable))

-- ---- lists of them

abbrev AllRight : List Step → List BufferWords → Type 0
AllRight before [] = Unit {0}
AllRight before (b ∷ bs) = Right before b × AllRight before bs

right_more : (before : List Step) (bs : List BufferWords) (b : BufferWords) → AllRight before bs → Right before b → AllRight before (bs ++ b ∷ [])
right_more before [] b h r = (r, tt)
right_more before (x ∷ xs) b h r = (h.0, right_more before xs b h.1 r)

listed_right : (before : List Step) (so_far : List BufferWords) (ds : Items) → AllRight before so_far → IfOk (listed_of before so_far ds) (λ bs. AllRight before bs × (length bs ≡ length so_far + count_of ds))
listed_right before so_far no_items h = (h, omega arith)
listed_right before so_far (item d ds) h =
    by_part (there (option_and_then checked_name (as_str d))) _ _ (λ name n. by_part (buffer_if before name) _ _ (λ b e.
    let right = IfOk-at_ok (Right before) e (buffer_right before name) in
    IfOk-weaker (listed_of before (so_far ++ b ∷ []) ds) _ _ (λ bs p. (let long = p.1 in (p.0, omega (arith, long, length-append so_far (b ∷ [])))))
    (listed_right before (so_far ++ b ∷ []) ds (right_more before so_far b h right))))

few_at : (b : Bool) (xs ds : Items) (n : ℕ) → (b ≡ true → count_of xs ≤ n) → Path (Result Items (Stop Wrong)) (there (if b then Some xs else None)) (Ok ds) → count_of ds ≤ n
few_at true xs ds n le h = subst (λ (y : Items). count_of y ≤ n) (same_Ok xs ds h) (le refl)
few_at false xs ds n le h = absurd cc

few_is : (o : Option Items) (ds : Items) → there (option_and_then few o) ≡ Ok ds → count_of ds ≤ most_transfer
few_is None ds h = absurd cc
few_is (Some xs) ds h = few_at _ xs ds most_transfer (λ is. leb-true (count_of xs) most_transfer is) h

transfer_right : (before : List Step) (o : Option Data) → IfOk (transfer_words before o) (λ bs. AllRight before bs × (length bs ≤ most_transfer))
transfer_right before None = (tt, omega arith)
transfer_right before (Some d) =
    by_part (there (option_and_then few (as_array d))) _ _ (λ ds e.
    let le = few_is (as_array d) ds e in
    IfOk-weaker (listed_of before [] ds) _ _ (λ bs p. (let long = p.1 in (p.0, omega (arith, long, le)))) (listed_right before [] ds tt))

abbrev AreBuffers : List Step → List Variable → Type 0
AreBuffers before vs = list_all (is_variable before is_buffer) vs ≡ true

known_right : (before : List Step) (so_far : List Variable) (bs : List BufferWords) → AllRight before bs → AreBuffers before so_far → IfOk (known_buffers so_far bs) (λ vs. AreBuffers before vs × (length vs ≡ length so_far + length bs))
known_right before so_far [] h k = (k, omega arith)
known_right before so_far (b ∷ bs) h k =
    by_part (known_buffer b) _ _ (λ v e.
    let one = IfOk-at_ok (λ x. is_variable before is_buffer x ≡ true) e h.0 in
    let more : AreBuffers before (so_far ++ v ∷ []) = list_all-append (is_variable before is_buffer) so_far (v ∷ []) ∙ all_true _ _ k (all_true _ true one refl) in
    IfOk-weaker (known_buffers (so_far ++ v ∷ []) bs) _ _ (λ vs p. (let long = p.1 in (p.0, omega (arith, long, length-append so_far (v ∷ []))))) (known_right before (so_far ++ v ∷ []) bs h.1 more))

-- ---- the data

-- the data is hex text of at most these bytes, or a buffer that is there
abbrev pub RightData : List Step → Option (List ℕ) → InitData → Type 0
RightData before bytes x = (is_sound_data before x ≡ true) × (bytes_of_data x ≤ byte_count bytes)

data_by_right : (before : List Step) (d : Data) (bytes : Option (List ℕ)) → IfOk (data_by before d bytes) (λ w. IfOk (known_data w) (λ c. IfSome c (RightData before bytes)))
data_by_right before d (Some bytes) = (refl, omega arith)
data_by_right before d None =
    by_part (name_in (codes "buffer") d) _ _ (λ name n. by_part (buffer_if before name) _ _ (λ b e. by_part (known_buffer b) _ _ (λ v k.
    (IfOk-at_ok (λ x. is_variable before is_buffer x ≡ true) k (IfOk-at_ok (Right before) e (buffer_right before name)), omega arith))))

data_right : (before : List Step) (o : Option Data) → IfOk (data_words before o) (λ w. IfOk (known_data w) (λ c. IfSome c (RightData before (option_and_then hex_of o))))
data_right before None = tt
data_right before (Some d) = data_by_right before d (hex_of d)

-- ---- the init

abbrev pub RightInit : List Step → Option (List ℕ) → BufferedInit → Type 0
RightInit before bytes i = (is_sound_init before i ≡ true) × (bytes_of_data i.content ≤ byte_count bytes)

with_right : (before : List Step) (bytes : Option (List ℕ)) (shape : Option InitShape) (content : Option InitData) (transfer : List Variable) → IfSome content (RightData before bytes) → AreBuffers before transfer → length transfer ≤ most_transfer
    → IfSome (buffered_with shape content transfer) (RightInit before bytes)
with_right before bytes (Some shape) (Some content) transfer right all few = (all_true _ _ right.0 (all_true _ _ (le-leb _ _ few) all), right.1)
with_right before bytes (Some shape) None transfer right all few = tt
with_right before bytes None content transfer right all few = tt

pub record SoundBuffered (before : List Step) (d : Data) (b : List ℕ × Option BufferedInit) : Type 0 where
  pub free : is_free before b.0 ≡ true
  pub init : IfSome b.1 (RightInit before (data_of_step d))

pub buffered_sound : (kind : VariableKind) (before : List Step) (d : Data) → IfOk (buffered_of kind before d) (SoundBuffered before d)
buffered_sound kind before d =
    by_part (name_in (codes "as") d) _ _ (λ name n. by_part (object_in (codes "init") d) _ _ (λ object o. by_part (init_shape_of kind object) _ _ (λ shape s.
    by_part (data_words before (get (codes "data") object)) _ _ (λ w dw. by_part (transfer_words before (get (codes "transfer") object)) _ _ (λ listed l. by_part (unused before name) _ _ (λ bind u.
    by_part (known_data w) _ _ (λ content c. by_part (known_buffers [] listed) _ _ (λ transfer t.
    let bytes : Option (List ℕ) = option_and_then hex_of (get (codes "data") object) in
    let right = IfOk-at_ok (λ x. IfSome x (RightData before bytes)) c (IfOk-at_ok (λ x. IfOk (known_data x) (λ y. IfSome y (RightData before bytes))) dw (data_right before (get (codes "data") object))) in
    let lists = IfOk-at_ok (λ bs. AllRight before bs × (length bs ≤ most_transfer)) l (transfer_right before (get (codes "transfer") object)) in
    let all = IfOk-at_ok (λ vs. AreBuffers before vs × (length vs ≡ length listed)) t (IfOk-weaker (known_buffers [] listed) _ _ (λ vs p. (let long = p.1 in (p.0, omega (arith, long)))) (known_right before [] listed lists.0 refl)) in
    let few : length transfer ≤ most_transfer = omega (arith, all.1, lists.1) in
    record {
      free = new_name before d name bind n u;
      init = subst (λ x. IfSome (buffered_with shape content transfer) (RightInit before x)) (step_data d object o) (with_right before bytes shape content transfer right all.0 few);
    }))))))))
