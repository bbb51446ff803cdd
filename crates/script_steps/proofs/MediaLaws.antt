-- What is known of a step of media resources that was read.
use Rattle.std.proofs.Common.{◌≡◌, ◌≤◌, ℕ, codes, Bool, true, false, not, if◌then◌else◌, length, List, Option, Some, None, Result, Ok, IfOk, refl, sym, subst, ◌∙◌, arith}
use Rattle.std.specs.Option.{IfSome}
use Rattle.std.proofs.lemmas.Result.{IfOk-at_ok}
use Rattle.serde_json.specs.Data.{Data}
use Rattle.wc_config.specs.declared.kind.Kind.{Kind}
use Rattle.chunk_files.specs.declared.fault.Stop.{Stop}
use Rattle.script_types.specs.declared.{fault.Wrong.Wrong, found.FoundVariable.FoundVariable, script.CodecItem.CodecItem, steps.Step.Step, steps.MediaStep.MediaStep, steps.Variable.Variable, steps.VariableKind.VariableKind, steps.BufferedInit.BufferedInit, script.PortItem.PortItem, script.PortKind.PortKind, options.Options.Options}
use Rattle.script_types.specs.Names.{outputs_of, is_copied, is_medium, is_promise, is_sized, posted_at}
use Rattle.script_types.specs.Sound.{gives, is_variable, is_free, are_options_of, is_sound_media, bytes_of_media, bytes_of_data, bytes_of_sound, bytes_of_picture}
use Rattle.script_steps.specs.Members.{and_then, needed as there, known, name_in, object_in}
use Rattle.script_steps.specs.{Media.data_of_init, Media.data_of_step, Media.sound_of, Media.picture_of, declared.words.StepWord.StepWord, declared.words.MediaWord.MediaWord}
use Rattle.script_steps.specs.{declared.references.Needed.Needed, Words.data_of_word, Words.byte_count}
use Rattle.script_steps.specs.References.{is_right, unused, variable_of, variable_if, bound_on}
use Rattle.script_steps.specs.MediaSteps.{made_with, buffer_of, size_in, options_in, media_by}
use Rattle.script_steps.specs.Buffers.{has_buffers, buffered_of}
use Rattle.script_steps.specs.Ports.{port_named_in, posted_by, post_of, receive_of}
use Rattle.script_steps.specs.declared.ports.FoundPort.{FoundPort}
use Rattle.script_steps.specs.Chains.{all_true, needed_some}
use Rattle.script_steps.specs.NameLaws.{variable_is_right, is_there}
use Rattle.script_steps.proofs.ReferenceLaws.{by_part, made, new_name, variable_sound, bound_on_sound, encoded_sound, bound_from_sound}
use Rattle.script_steps.proofs.SourceLaws.{sound_bytes, picture_bytes, step_data}
use Rattle.script_steps.proofs.BufferLaws.{RightInit, SoundBuffered, buffered_sound}

pub record SoundMedia (codecs : List CodecItem) (before : List Step) (d : Data) (w : MediaWord) (s : MediaStep) : Type 0 where
  pub sound : is_sound_media codecs before s ≡ true
  pub bytes : bytes_of_media s ≤ byte_count (data_of_word (Some (StepWord.Media w)) d)

-- a step that gives a name to what is made of an init
of_init : {A : Type 0} → (codecs : List CodecItem) (before : List Step) (d : Data) (w : MediaWord) (read : Data → Result A (Stop Wrong)) (make : List ℕ → A → MediaStep) (bytes : A → ℕ)
    → data_of_step d ≡ data_of_word (Some (StepWord.Media w)) d → ((bind : List ℕ) (init : A) → is_sound_media codecs before (make bind init) ≡ is_free before bind)
    → ((bind : List ℕ) (init : A) → bytes_of_media (make bind init) ≡ bytes init) → ((object : Data) → IfOk (read object) (λ init. bytes init ≤ byte_count (data_of_init object)))
    → IfOk (and_then (name_in (codes "as") d) (λ name. and_then (object_in (codes "init") d) (λ object. and_then (read object) (λ init. and_then (unused before name) (λ bind. Ok (make bind init)))))) (SoundMedia codecs before d w)
of_init codecs before d w read make bytes same sound count small =
    by_part (name_in (codes "as") d) _ _ (λ name n. by_part (object_in (codes "init") d) _ _ (λ object o. by_part (read object) _ _ (λ init i. by_part (unused before name) _ _ (λ bind u.
    let few = IfOk-at_ok (λ x. bytes x ≤ byte_count (data_of_init object)) i (small object) in
    record {
      sound = sound bind init ∙ new_name before d name bind n u;
      bytes = rw (count bind init) (subst (λ c. bytes init ≤ byte_count c) (step_data d object o ∙ same) few);
    }))))

gives_own : (k : Kind) → gives (outputs_of k) k ≡ true
gives_own k = grind arith

-- a step that is made of one part that was read
of_part : {A : Type 0} → (codecs : List CodecItem) (before : List Step) (d : Data) (w : MediaWord) (r : Result A (Stop Wrong)) (make : A → MediaStep) → IfOk r (λ a. is_sound_media codecs before (make a) ≡ true)
    → ((a : A) → bytes_of_media (make a) ≤ byte_count (data_of_word (Some (StepWord.Media w)) d)) → IfOk (and_then r (λ a. Ok (make a))) (SoundMedia codecs before d w)
of_part codecs before d w r make sound bytes = made r make (λ a. is_sound_media codecs before (make a) ≡ true) _ sound (λ a s. record { sound = s; bytes = bytes a })

-- ---- copies

copied_is_none : (kind : VariableKind) → is_copied kind ≡ true → not (is_promise kind) ≡ true
copied_is_none kind h = grind (arith, h)

sized_is_none : (kind : VariableKind) → is_sized kind ≡ true → not (is_promise kind) ≡ true
sized_is_none kind h = grind (arith, h)

-- those of a variable that was found
options_of_found : (m : Option FoundVariable) (f : FoundVariable) (d : Data) (o : Options) → known m ≡ Ok f → not (is_promise f.kind) ≡ true
    → options_in m d ≡ Ok o → are_options_of o f.kind ≡ true
options_of_found m f d o h k g = grind (arith, h, k, g)

-- a step with a variable, and with options of what it holds
of_options : (codecs : List CodecItem) (before : List Step) (d : Data) (w : MediaWord) (needed : Needed) (of : List ℕ) (make : Variable → Options → MediaStep) → ((k : VariableKind) → is_right needed k ≡ true → not (is_promise k) ≡ true)
    → ((v : Variable) (o : Options) → is_variable before (is_right needed) v ≡ true → are_options_of o v.kind ≡ true → is_sound_media codecs before (make v o) ≡ true)
    → ((v : Variable) (o : Options) → bytes_of_media (make v o) ≤ byte_count (data_of_word (Some (StepWord.Media w)) d))
    → IfOk (and_then (variable_if needed before of) (λ m. and_then (options_in m d) (λ o. and_then (known m) (λ found. Ok (make (variable_of of found) o))))) (SoundMedia codecs before d w)
of_options codecs before d w needed of make copied sound bytes =
    by_part (variable_if needed before of) _ _ (λ maybe m. by_part (options_in maybe d) _ _ (λ options o. by_part (known maybe) _ _ (λ found k.
    let v = variable_is_right before needed of maybe found m k in
    record { sound = sound _ options v.variable (options_of_found maybe found d options k (copied found.kind v.kind) o); bytes = bytes _ _ })))

-- one of two steps, by a test
pub either : {A : Type 0} (b : Bool) (x y : Result A (Stop Wrong)) (P : A → Type 0) → IfOk x P → IfOk y P → IfOk (if b then x else y) P
either true x y P h k = h
either false x y P h k = k

-- ---- inits that name buffers

made_sound : (codecs : List CodecItem) (before : List Step) (d : Data) (w : MediaWord) (refused : List ℕ → MediaStep) (bind : List ℕ) (o : Option BufferedInit) → data_of_step d ≡ data_of_word (Some (StepWord.Media w)) d
    → is_sound_media codecs before (refused bind) ≡ is_free before bind → bytes_of_media (refused bind) ≡ 0 → is_free before bind ≡ true → IfSome o (RightInit before (data_of_step d)) → SoundMedia codecs before d w (made_with refused (bind, o))
made_sound codecs before d w refused bind None same sound few free right = record { sound = sound ∙ free; bytes = omega (arith, few) }
made_sound codecs before d w refused bind (Some i) same sound few free right = record {
  sound = all_true _ _ free right.0;
  bytes = subst (λ c. bytes_of_data i.content ≤ byte_count c) same right.1;
}

of_buffers : (codecs : List CodecItem) (before : List Step) (d : Data) (w : MediaWord) (kind : VariableKind) (refused : List ℕ → MediaStep) → data_of_step d ≡ data_of_word (Some (StepWord.Media w)) d
    → ((bind : List ℕ) → is_sound_media codecs before (refused bind) ≡ is_free before bind) → ((bind : List ℕ) → bytes_of_media (refused bind) ≡ 0)
    → IfOk (and_then (buffered_of kind before d) (λ b. Ok (made_with refused b))) (SoundMedia codecs before d w)
of_buffers codecs before d w kind refused same sound few =
    made (buffered_of kind before d) (made_with refused) (SoundBuffered before d) _ (buffered_sound kind before d) (λ b s. made_sound codecs before d w refused b.0 b.1 same (sound b.0) (few b.0) s.free s.init)

buffer_sound : (codecs : List CodecItem) (before : List Step) (d : Data) → IfOk (buffer_of before d) (SoundMedia codecs before d MediaWord.Buffer)
buffer_sound codecs before d =
    by_part (name_in (codes "as") d) _ _ (λ name n. by_part (there (data_of_init d)) _ _ (λ content c. by_part (unused before name) _ _ (λ bind u.
    record {
      sound = new_name before d name bind n u;
      bytes = subst (λ (o : Option (List ℕ)). length content ≤ byte_count o) (sym (needed_some (data_of_init d) content c)) (omega arith);
    })))

-- ---- ports

posted_medium : (p : Option FoundPort) (v : VariableKind) → is_right (posted_by p) v ≡ true → is_medium v ≡ true
posted_medium None v h = grind (arith, h)
posted_medium (Some p) v h = grind (arith, h)

post_sound : (codecs : List CodecItem) (ports : List (Option PortItem)) (before : List Step) (d : Data) → IfOk (post_of ports before d) (SoundMedia codecs before d MediaWord.Post)
post_sound codecs ports before d =
    by_part (name_in (codes "to") d) _ _ (λ to t. by_part (name_in (codes "data") d) _ _ (λ name n.
    by_part (variable_if (posted_by (port_named_in ports to)) before name) _ _ (λ maybe m. by_part (known (port_named_in ports to)) _ _ (λ p k. by_part (known maybe) _ _ (λ found l.
    let there = variable_is_right before (posted_by (port_named_in ports to)) name maybe found m l in
    record { sound = is_there before is_medium name found there.found (posted_medium (port_named_in ports to) found.kind there.kind); bytes = omega arith })))))

posted_is_medium : (k : PortKind) → is_medium (posted_at k) ≡ true
posted_is_medium PortKind.Audio = refl
posted_is_medium PortKind.Frame = refl

receive_sound : (codecs : List CodecItem) (ports : List (Option PortItem)) (before : List Step) (d : Data) → IfOk (receive_of ports before d) (SoundMedia codecs before d MediaWord.Receive)
receive_sound codecs ports before d =
    by_part (name_in (codes "from") d) _ _ (λ from f. by_part (name_in (codes "as") d) _ _ (λ name n. by_part (unused before name) _ _ (λ bind u. by_part (known (port_named_in ports from)) _ _ (λ p k.
    record { sound = all_true _ _ (new_name before d name bind n u) (posted_is_medium p.of); bytes = omega arith }))))

-- ---- every step

pub media_sound : (codecs : List CodecItem) (ports : List (Option PortItem)) (before : List Step) (d : Data) (w : MediaWord) → IfOk (media_by codecs ports before d w) (SoundMedia codecs before d w)
media_sound codecs ports before d MediaWord.Audio = either (has_buffers d) _ _ _ (of_buffers codecs before d MediaWord.Audio VariableKind.Audio (λ bind. MediaStep.Audio bind None) refl (λ bind. refl) (λ bind. refl))
    (of_init codecs before d MediaWord.Audio sound_of MediaStep.Audio bytes_of_sound refl (λ bind init. refl) (λ bind init. refl) sound_bytes)
media_sound codecs ports before d MediaWord.Frame = either (has_buffers d) _ _ _ (of_buffers codecs before d MediaWord.Frame VariableKind.Frame (λ bind. MediaStep.Frame bind None) refl (λ bind. refl) (λ bind. refl))
    (of_init codecs before d MediaWord.Frame picture_of MediaStep.Frame bytes_of_picture refl (λ bind init. refl) (λ bind init. refl) picture_bytes)
media_sound codecs ports before d MediaWord.Buffer = buffer_sound codecs before d
media_sound codecs ports before d MediaWord.Encode = of_part codecs before d MediaWord.Encode _ _ (encoded_sound codecs before d) (λ g. omega arith)
media_sound codecs ports before d MediaWord.Take =
    made (bound_on codecs before d) _ _ _ (bound_on_sound codecs before d) (λ b s. record { sound = s (gives (outputs_of b.0.kind)) (gives_own b.0.kind); bytes = omega arith })
media_sound codecs ports before d MediaWord.Clone = of_part codecs before d MediaWord.Clone _ _ (bound_from_sound before d) (λ b. omega arith)
media_sound codecs ports before d MediaWord.Transfer = of_part codecs before d MediaWord.Transfer _ _ (bound_from_sound before d) (λ b. omega arith)
media_sound codecs ports before d MediaWord.CloseData = of_part codecs before d MediaWord.CloseData _ _ (variable_sound (codes "of") Needed.Medium before d) (λ v. omega arith)
media_sound codecs ports before d MediaWord.Copy =
    by_part (name_in (codes "of") d) _ _ (λ of n. by_part (size_in d) _ _ (λ size s.
    of_options codecs before d MediaWord.Copy Needed.Copied of (λ v o. MediaStep.Copy v o size) copied_is_none (λ v o a b. all_true _ _ a (all_true _ _ b (grind (arith, s)))) (λ v o. omega arith)))
media_sound codecs ports before d MediaWord.Size =
    by_part (name_in (codes "of") d) _ _ (λ of n. of_options codecs before d MediaWord.Size Needed.Sized of MediaStep.Size sized_is_none (λ v o. all_true _ _) (λ v o. omega arith))
media_sound codecs ports before d MediaWord.Post = post_sound codecs ports before d
media_sound codecs ports before d MediaWord.Receive = receive_sound codecs ports before d
