-- What is known of a step that was read.
use Rattle.std.proofs.Common.{◌≡◌, ◌≤◌, ℕ, codes, true, List, [], length, Option, Some, None, Result, Ok, IfOk, refl, sym, ap, subst, ◌∙◌, arith}
use Rattle.std.proofs.lemmas.Result.{IfOk-at_ok, IfOk-weaker}
use Rattle.serde_json.specs.Data.{Data}
use Rattle.script_types.specs.declared.{script.CodecItem.CodecItem, script.PortItem.PortItem, steps.Step.Step, steps.VariableKind.VariableKind, steps.BufferedInit.BufferedInit, fault.Wrong.Wrong}
use Rattle.std.specs.Option.{IfSome}
use Rattle.script_steps.specs.{Ports.is_right_use, Buffers.buffered_of}
use Rattle.script_steps.specs.Chains.{all_true}
use Rattle.script_steps.proofs.BufferLaws.{RightInit, SoundBuffered, buffered_sound}
use Rattle.script_steps.proofs.UseLaws.{media_uses}
use Rattle.script_types.specs.Names.{codec_named, decodes}
use Rattle.script_types.specs.Sound.{suits, any_kind, is_free, is_sound_step, bytes_of_step, bytes_of_source, file_after, source_after, are_apart}
use Rattle.script_steps.specs.{declared.source.SourceWords.SourceWords, ConfigRead.config_of, Sources.source_of, declared.words.StepWord.StepWord}
use Rattle.chunk_files.specs.declared.fault.Stop.{Stop}
use Rattle.script_steps.specs.Members.{and_then, needed as there, known, name_in, object_in}
use Rattle.script_steps.specs.{declared.references.Needed.Needed, Soundness.StepsAreSound}
use Rattle.script_steps.specs.Words.{word_in, data_of_word, inline_data, byte_count}
use Rattle.script_steps.specs.{References.unused, References.bound_on, Media.data_of_step, MediaSteps.media_by}
use Rattle.script_steps.specs.Steps.{configure_of, numbered, chunk_with_buffers, is_buffered_chunk, no_file, step_by}
use Rattle.script_steps.specs.Chains.{chain, needed_some}
use Rattle.script_steps.proofs.{ConfigLaws.config_suits, FileLaws.file_is_counted, FileLaws.files_are_apart, MediaLaws.SoundMedia, MediaLaws.either, MediaLaws.media_sound}
use Rattle.script_steps.specs.NameLaws.{codec_is_there}
use Rattle.script_steps.proofs.ReferenceLaws.{by_part, made, new_name, variable_sound, on_sound, ground_on_sound, bound_on_sound, given_to_sound}
use Rattle.script_steps.proofs.SourceLaws.{source_bytes}

record SoundBy (codecs : List CodecItem) (ports : List (Option PortItem)) (files : List (List ℕ)) (before : List Step) (d : Data) (w : StepWord) (r : Step × List (List ℕ)) : Type 0 where
  pub sound : is_sound_step codecs before r.0 ≡ true
  pub bytes : bytes_of_step r.0 ≤ byte_count (data_of_word (Some w) d)
  pub count : file_after (length files) r.0 ≡ Some (length r.1)
  pub apart : are_apart [] files ≡ true → are_apart [] r.1 ≡ true
  pub uses : is_right_use ports r.0 ≡ true

-- a step that mentions no file
plain : (codecs : List CodecItem) (ports : List (Option PortItem)) (files : List (List ℕ)) (before : List Step) (d : Data) (w : StepWord) (t : Result Step (Stop Wrong)) → IfOk t (λ s. SoundBy codecs ports files before d w (s, files)) → IfOk (no_file files t) (SoundBy codecs ports files before d w)
plain codecs ports files before d w t h = made t _ (λ s. SoundBy codecs ports files before d w (s, files)) _ h (λ s p. p)

configure : (codecs : List CodecItem) (ports : List (Option PortItem)) (files : List (List ℕ)) (before : List Step) (d : Data) → IfOk (configure_of codecs d) (λ s. SoundBy codecs ports files before d StepWord.Configure (s, files))
configure codecs ports files before d =
    by_part (name_in (codes "on") d) _ _ (λ on n. by_part (object_in (codes "config") d) _ _ (λ object o. by_part (known (codec_named codecs on)) _ _ (λ codec k. by_part (config_of codec.kind object) _ _ (λ config c.
    let suit = IfOk-at_ok (λ x. suits x codec.kind ≡ true) c (config_suits codec.kind object) in
    record { sound = codec_is_there codecs (suits config) on codec k ∙ suit; bytes = omega arith; count = refl; apart = λ a. a; uses = refl }))))

-- a step that is made of one part that was read
of_part : {A : Type 0} → (codecs : List CodecItem) (ports : List (Option PortItem)) (files : List (List ℕ)) (before : List Step) (d : Data) (w : StepWord) (r : Result A (Stop Wrong)) (make : A → Step) → IfOk r (λ a. is_sound_step codecs before (make a) ≡ true)
    → ((a : A) → bytes_of_step (make a) ≤ byte_count (data_of_word (Some w) d)) → ((a : A) (n : ℕ) → file_after n (make a) ≡ Some n) → ((a : A) → is_right_use ports (make a) ≡ true) → IfOk (no_file files (and_then r (λ a. Ok (make a)))) (SoundBy codecs ports files before d w)
of_part codecs ports files before d w r make sound bytes count uses =
    plain codecs ports files before d w _ (made r make (λ a. is_sound_step codecs before (make a) ≡ true) _ sound (λ a s. record { sound = s; bytes = bytes a; count = count a (length files); apart = λ x. x; uses = uses a }))

source_files : (files : List (List ℕ)) (s : SourceWords) → (source_after (length files) (numbered files s).0 ≡ Some (length (numbered files s).1)) × (are_apart [] files ≡ true → are_apart [] (numbered files s).1 ≡ true)
source_files files (SourceWords.Init init) = (refl, λ h. h)
source_files files (SourceWords.File name index) = (file_is_counted files name, files_are_apart files name)

-- a chunk whose init names buffers
chunk_made : (codecs : List CodecItem) (ports : List (Option PortItem)) (files : List (List ℕ)) (before : List Step) (d : Data) (bind : List ℕ) (o : Option BufferedInit) → is_free before bind ≡ true → IfSome o (RightInit before (data_of_step d))
    → SoundBy codecs ports files before d StepWord.Chunk (chunk_with_buffers (bind, o), files)
chunk_made codecs ports files before d bind None free right = record { sound = free; bytes = omega arith; count = refl; apart = λ a. a; uses = refl }
chunk_made codecs ports files before d bind (Some i) free right = record { sound = all_true _ _ free right.0; bytes = right.1; count = refl; apart = λ a. a; uses = refl }

buffered_chunk : (codecs : List CodecItem) (ports : List (Option PortItem)) (files : List (List ℕ)) (before : List Step) (d : Data)
    → IfOk (no_file files (and_then (buffered_of VariableKind.Chunk before d) (λ b. Ok (chunk_with_buffers b)))) (SoundBy codecs ports files before d StepWord.Chunk)
buffered_chunk codecs ports files before d =
    plain codecs ports files before d StepWord.Chunk _ (made (buffered_of VariableKind.Chunk before d) chunk_with_buffers (SoundBuffered before d) _ (buffered_sound VariableKind.Chunk before d) (λ b s. chunk_made codecs ports files before d b.0 b.1 s.free s.init))

by_word : (codecs : List CodecItem) (ports : List (Option PortItem)) (files : List (List ℕ)) (before : List Step) (d : Data) (w : StepWord) → IfOk (step_by codecs ports files before d w) (SoundBy codecs ports files before d w)
by_word codecs ports files before d StepWord.Configure = plain codecs ports files before d StepWord.Configure _ (configure codecs ports files before d)
by_word codecs ports files before d StepWord.Chunk = either (is_buffered_chunk d) _ _ _ (buffered_chunk codecs ports files before d) (
    by_part (name_in (codes "as") d) _ _ (λ name n. by_part (source_of d) _ _ (λ source s. by_part (unused before name) _ _ (λ bind u.
    let small = IfOk-at_ok (λ x. bytes_of_source (numbered files x).0 ≤ byte_count (data_of_step d)) s (source_bytes files d) in
    record { sound = new_name before d name bind n u; bytes = small; count = (source_files files source).0; apart = (source_files files source).1; uses = refl }))))
by_word codecs ports files before d StepWord.Decode = of_part codecs ports files before d StepWord.Decode _ _ (given_to_sound decodes (codes "chunk") Needed.Chunk codecs before d) (λ g. omega arith) (λ g n. refl) (λ g. refl)
by_word codecs ports files before d StepWord.Flush =
    of_part codecs ports files before d StepWord.Flush _ _ (IfOk-weaker (bound_on codecs before d) _ _ (λ b s. s any_kind refl) (bound_on_sound codecs before d)) (λ b. omega arith) (λ b n. refl) (λ b. refl)
by_word codecs ports files before d StepWord.Poll = of_part codecs ports files before d StepWord.Poll _ _ (variable_sound (codes "promise") Needed.Promise before d) (λ v. omega arith) (λ v n. refl) (λ v. refl)
by_word codecs ports files before d StepWord.Await = of_part codecs ports files before d StepWord.Await _ _ (variable_sound (codes "promise") Needed.Promise before d) (λ v. omega arith) (λ v n. refl) (λ v. refl)
by_word codecs ports files before d StepWord.Reset = of_part codecs ports files before d StepWord.Reset _ _ (on_sound codecs d) (λ on. omega arith) (λ on n. refl) (λ on. refl)
by_word codecs ports files before d StepWord.Close = of_part codecs ports files before d StepWord.Close _ _ (on_sound codecs d) (λ on. omega arith) (λ on n. refl) (λ on. refl)
by_word codecs ports files before d StepWord.State = of_part codecs ports files before d StepWord.State _ _ (on_sound codecs d) (λ on. omega arith) (λ on n. refl) (λ on. refl)
by_word codecs ports files before d StepWord.Ground = of_part codecs ports files before d StepWord.Ground _ _ (ground_on_sound codecs d) (λ g. omega arith) (λ g n. refl) (λ g. refl)
by_word codecs ports files before d (StepWord.Media w) =
    plain codecs ports files before d (StepWord.Media w) _ (by_part (media_by codecs ports before d w) _ _ (λ m e.
    let t = IfOk-at_ok (SoundMedia codecs before d w) e (media_sound codecs ports before d w) in
    record { sound = t.sound; bytes = t.bytes; count = refl; apart = λ a. a; uses = IfOk-at_ok (λ x. is_right_use ports (Step.Media x) ≡ true) e (media_uses codecs ports before d w) }))

pub step_sound : StepsAreSound
step_sound codecs ports files before d s after h =
    let w = chain (there (word_in d)) _ (s, after) h in
    let t = IfOk-at_ok (SoundBy codecs ports files before d w.value) w.rest (by_word codecs ports files before d w.value) in
    let same : byte_count (data_of_word (Some w.value) d) ≡ byte_count (inline_data d) = ap (λ o. byte_count (data_of_word o d)) (sym (needed_some (word_in d) w.value w.first)) in
    record { step = t.sound; bytes = subst (λ n. bytes_of_step s ≤ n) same t.bytes; count = t.count; apart = t.apart; uses = t.uses }
