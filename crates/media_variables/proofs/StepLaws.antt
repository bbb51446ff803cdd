-- What a step of one caller comes to, by what it gives its variable.
use Rattle.std.proofs.Common.{ℕ, ◌≡◌, ◌<◌, ◌≤◌, Bool, true, false, if◌then◌else◌, List, [], length, take, Option, Some, None, refl, ap, sym, subst, ◌∙◌, arith}
use Rattle.std.specs.Prelude.{option_map}
use Rattle.std.specs.Option.{option_to_list}
use Rattle.std.proofs.lemmas.Bool.{false≢true}
use Rattle.wc_base.specs.declared.who.Who.{Who}
use Rattle.codec_definitions.specs.declared.unit.Unit as output
use Rattle.codec_definitions.specs.declared.unit.Unit.TheVariants as unit
use Rattle.wc_base.specs.declared.error.DomError.TheVariants as dom
use Rattle.picture_planes.specs.Planes.{picture_size}
use Rattle.wc_pool.specs.declared.entry.PoolEntry.{PoolEntry}
use Rattle.wc_pool.specs.declared.entry.PoolOp.{PoolOp}
use Rattle.wc_pool.specs.declared.reference.MediaRef.{MediaRef}
use Rattle.wc_audio.specs.Sound as sound
use Rattle.wc_video.specs.Frames as frames
use Rattle.wc_chunk.specs.declared.chunk.Chunk.{Chunk}
use Rattle.script_types.specs.declared.options.Options.{Options}
use Rattle.script_types.specs.declared.options.Options.TheVariants as options
use Rattle.script_types.specs.declared.steps.SoundInit.{SoundInit}
use Rattle.script_types.specs.declared.steps.PictureInit.{PictureInit}
use Rattle.script_types.specs.declared.steps.MediaStep.{MediaStep}
use Rattle.report_text.specs.declared.result.StepResult.{StepResult}
use Rattle.report_text.specs.declared.result.StepResult.TheVariants as result
use Rattle.media_variables.specs.declared.given.Given.{Given}
use Rattle.media_variables.specs.Variables.{Reference, Shape, SoundOf, PictureOf, BufferOf, Medium, Numbers, Came, refused, changed_at, without, with_medium, detached, medium_at, only_answers, makes, audio_came, frame_came, clone_held, transfer_held, close_held, if_there, copy_came, copy_medium, size_of_medium, unit_came, Brought, media_came}
use Rattle.media_variables.specs.Held.{WholeMedium, held_by, reference_of, seen, seen_in, whole_held, without_reference}
use Rattle.media_variables.specs.Given.{Done, Does, DoesAll, Gives, CameBy, Acts, gives_nothing, made_done, audio_done, frame_done, buffer_done, taken_done, cloned_done, clone_done, transferred_done, transfer_done, transferred, transferred_at, closed_answer, closed_op, given_to}
use Rattle.media_variables.proofs.Places.{without_there, without_same, seen_at, seen_given, seen_without}

-- the call found no variable there
pub not_there : (j n : ℕ) → (j < n → false ≡ true) → n ≤ j
not_there j n h = let apart : j < n → ⊥ = λ lt. false≢true (h lt) in omega arith

abbrev pub came_of : ℕ → Done → List (Option Medium) → Came
came_of j d vs = record { answer = d.answer; variables = given_to j d.medium vs; does = option_to_list d.does }

-- what is done with one entry is done
pub turned : {P : Type 0} (adds : P → P → PoolEntry → Type 0) (who : Who) (old new : P) (o : Option PoolOp) → Does (adds old new) (new ≡ old) who o → DoesAll adds who old new (option_to_list o)
turned adds who old new None h = h
turned adds who old new (Some o) h = (h.0, (new, (h.1, refl)))

-- what a variable was given, as steps see it
pub kept_seen : (j : ℕ) (m : Option WholeMedium) (before now : List (Option WholeMedium)) (vs : List (Option Medium)) → now ≡ given_to j m before → seen_in before ≡ vs → seen_in now ≡ given_to j (option_map seen m) vs
kept_seen j m before now vs is same = ap seen_in is ∙ seen_given j m before ∙ ap (given_to j (option_map seen m)) same

made_if : (b : Bool) (n : Numbers) (j : ℕ) (shape : Shape) (bytes : List ℕ) (vs : List (Option Medium)) → came_of j (if b then gives_nothing (refused dom.TypeErr) else made_done n shape bytes) vs ≡ (if b then only_answers (refused dom.TypeErr) vs else makes n j shape bytes vs)
made_if true n j shape bytes vs = refl
made_if false n j shape bytes vs = refl

buffer_is : (n : Numbers) (j : ℕ) (bytes : List ℕ) (vs : List (Option Medium)) → came_of j (buffer_done bytes n) vs ≡ makes n j BufferOf bytes vs
buffer_is n j bytes vs = refl

audio_is : (n : Numbers) (j : ℕ) (init : Option SoundInit) (vs : List (Option Medium)) → came_of j (audio_done init n) vs ≡ audio_came n j init vs
audio_is n j None vs = refl
audio_is n j (Some i) vs = made_if (sound.is_invalid i.shape (length i.content)) n j (SoundOf i.shape) (take (sound.needed i.shape) i.content) vs

frame_is : (n : Numbers) (j : ℕ) (init : Option PictureInit) (vs : List (Option Medium)) → came_of j (frame_done init n) vs ≡ frame_came n j init vs
frame_is n j None vs = refl
frame_is n j (Some i) vs = made_if (frames.is_invalid i.shape (length i.content)) n j (PictureOf i.shape) (take (picture_size i.shape) i.content) vs

taken_is : (n : Numbers) (j : ℕ) (answer : StepResult) (u : output.Unit) (vs : List (Option Medium)) → came_of j (taken_done answer u n) vs ≡ unit_came n j answer u vs
taken_is n j answer (unit.Sound s) vs = refl
taken_is n j answer (unit.Image p) vs = refl
taken_is n j answer (unit.Coded chunk config) vs = refl

cloned_is : (n : Numbers) (j : ℕ) (shape : Shape) (held : Option Reference) (vs : List (Option Medium)) → came_of j (cloned_done shape held n) vs ≡ clone_held n j shape held vs
cloned_is n j shape None vs = refl
cloned_is n j shape (Some r) vs = refl

clone_is : (n : Numbers) (j : ℕ) (v : Option Medium) (vs : List (Option Medium)) → came_of j (clone_done v n) vs ≡ if_there v vs (λ m. clone_held n j m.shape m.held vs)
clone_is n j None vs = refl
clone_is n j (Some m) vs = cloned_is n j m.shape m.held vs

-- a medium that is detached already
detached_same : (m : Medium) → m.held ≡ None → detached m ≡ m
detached_same m e = ap (λ (h : Option Reference). record m { held = h }) (sym e)

pub without_detached : (vs : List (Option Medium)) (j : ℕ) (m : Medium) → medium_at vs j ≡ Some m → m.held ≡ None → without j vs ≡ vs
without_detached vs j m there none =
    without_same vs j (ap (option_map detached) there ∙ ap Some (detached_same m none) ∙ sym there)

pub without_absent : (vs : List (Option Medium)) (j : ℕ) → medium_at vs j ≡ None → without j vs ≡ vs
without_absent vs j none = without_same vs j (ap (option_map detached) none ∙ sym none)

transferred_answer : (m : WholeMedium) (o : Option MediaRef) → (transferred m o).answer ≡ (transferred_done (seen m) (option_map reference_of o)).answer
transferred_answer m None = refl
transferred_answer m (Some r) = refl

transferred_medium : (m : WholeMedium) (o : Option MediaRef) → option_map seen (transferred m o).medium ≡ (transferred_done (seen m) (option_map reference_of o)).medium
transferred_medium m None = refl
transferred_medium m (Some r) = refl

transfer_answer : (v : Option WholeMedium) → (transferred_at v).answer ≡ (transfer_done (option_map seen v)).answer
transfer_answer None = refl
transfer_answer (Some m) = transferred_answer m m.held

transfer_medium : (v : Option WholeMedium) → option_map seen (transferred_at v).medium ≡ (transfer_done (option_map seen v)).medium
transfer_medium None = refl
transfer_medium (Some m) = transferred_medium m m.held

seen_answer : (v : Option WholeMedium) → closed_answer v ≡ closed_answer (option_map seen v)
seen_answer None = refl
seen_answer (Some m) = refl

whole_held_seen : (v : Option WholeMedium) → option_map reference_of (whole_held v) ≡ held_by (option_map seen v)
whole_held_seen None = refl
whole_held_seen (Some m) = refl

module _ (adds : PoolEntry → Type 0) (same : Type 0) (who : Who) (did : List PoolOp → Type 0) (turn : (o : Option PoolOp) → Does adds same who o → did (option_to_list o)) (vs after : List (Option Medium)) where
  given_acts : (done : Numbers → Done) (came : Numbers → Came) (g : Given) (r : StepResult) → ((n : Numbers) → came_of who.step (done n) vs ≡ came n) → Gives adds same who done g → r ≡ g.answer → after ≡ given_to who.step (option_map seen g.medium) vs
      → Acts did (λ n. Some (came n)) vs after (Some r)
  given_acts done came g r is h answer variables = record {
    numbers = h.numbers;
    came_by = subst (λ (c : Came). CameBy did vs after (Some c) (Some r)) (is h.numbers)
        (ap Some (answer ∙ h.answered), turn (done h.numbers).does h.does, variables ∙ ap (λ (m : Option Medium). given_to who.step m vs) h.medium);
  }

  pub buffer_acts : (bytes : List ℕ) (g : Given) (r : StepResult) → Gives adds same who (buffer_done bytes) g → r ≡ g.answer → after ≡ given_to who.step (option_map seen g.medium) vs → Acts did (λ n. Some (makes n who.step BufferOf bytes vs)) vs after (Some r)
  buffer_acts bytes g r = given_acts _ _ g r (λ n. buffer_is n who.step bytes vs)

  pub audio_acts : (init : Option SoundInit) (g : Given) (r : StepResult) → Gives adds same who (audio_done init) g → r ≡ g.answer → after ≡ given_to who.step (option_map seen g.medium) vs → Acts did (λ n. Some (audio_came n who.step init vs)) vs after (Some r)
  audio_acts init g r = given_acts _ _ g r (λ n. audio_is n who.step init vs)

  pub frame_acts : (init : Option PictureInit) (g : Given) (r : StepResult) → Gives adds same who (frame_done init) g → r ≡ g.answer → after ≡ given_to who.step (option_map seen g.medium) vs → Acts did (λ n. Some (frame_came n who.step init vs)) vs after (Some r)
  frame_acts init g r = given_acts _ _ g r (λ n. frame_is n who.step init vs)

  pub take_acts : (answer : StepResult) (u : output.Unit) (g : Given) (r : StepResult) → Gives adds same who (taken_done answer u) g → r ≡ g.answer → after ≡ given_to who.step (option_map seen g.medium) vs → Acts did (λ n. Some (unit_came n who.step answer u vs)) vs after (Some r)
  take_acts answer u g r = given_acts _ _ g r (λ n. taken_is n who.step answer u vs)

  pub clone_acts : (v : Option Medium) (g : Given) (r : StepResult) → Gives adds same who (clone_done v) g → r ≡ g.answer → after ≡ given_to who.step (option_map seen g.medium) vs
      → Acts did (λ n. Some (if_there v vs (λ m. clone_held n who.step m.shape m.held vs))) vs after (Some r)
  clone_acts v g r = given_acts _ _ g r (λ n. clone_is n who.step v vs)

  -- ---- a transfer

  transferred_came : (of : ℕ) (m : Medium) (held : Option Reference) (r : StepResult) → same → medium_at vs of ≡ Some m → m.held ≡ held → r ≡ (transferred_done m held).answer → after ≡ given_to who.step (transferred_done m held).medium (without of vs)
      → CameBy did vs after (Some (transfer_held who.step of m held vs)) (Some r)
  transferred_came of m None r here there is answer variables = (ap Some answer, turn None here, variables ∙ without_detached vs of m there is)
  transferred_came of m (Some x) r here there is answer variables = (ap Some answer, turn None here, variables ∙ ap (with_medium who.step m) (without_there vs of m there))

  transfer_came : (of : ℕ) (v : Option Medium) (r : StepResult) → same → medium_at vs of ≡ v → r ≡ (transfer_done v).answer → after ≡ given_to who.step (transfer_done v).medium (without of vs)
      → CameBy did vs after (Some (if_there v vs (λ m. transfer_held who.step of m m.held vs))) (Some r)
  transfer_came of None r here there answer variables = (ap Some answer, turn None here, variables ∙ without_absent vs of there)
  transfer_came of (Some m) r here there answer variables = transferred_came of m m.held r here there refl answer variables

  -- ---- a close

  closed_came : (of : ℕ) (m : Medium) (held : Option Reference) (r : StepResult) → medium_at vs of ≡ Some m → m.held ≡ held → r ≡ result.Local None → after ≡ without of vs → Does adds same who (closed_op held)
      → CameBy did vs after (Some (close_held of m held vs)) (Some r)
  closed_came of m None r there is answer variables does = (ap Some answer, turn None does, variables ∙ without_detached vs of m there is)
  closed_came of m (Some x) r there is answer variables does = (ap Some answer, turn (closed_op (Some x)) does, variables ∙ without_there vs of m there)

  close_came : (of : ℕ) (v : Option Medium) (r : StepResult) → medium_at vs of ≡ v → r ≡ closed_answer v → after ≡ without of vs → Does adds same who (closed_op (held_by v))
      → CameBy did vs after (Some (if_there v vs (λ m. close_held of m m.held vs))) (Some r)
  close_came of None r there answer variables does = (ap Some answer, turn None does, variables ∙ without_absent vs of there)
  close_came of (Some m) r there answer variables does = closed_came of m m.held r there refl answer variables does

no_numbers : Numbers
no_numbers = record { resource = 0; reference = 0 }

pub transfer_acts : (adds : PoolEntry → Type 0) (same : Type 0) (who : Who) (did : List PoolOp → Type 0) (turn : (o : Option PoolOp) → Does adds same who o → did (option_to_list o)) (items now : List (Option WholeMedium)) (of : ℕ) (g : Given) (r : StepResult) → same → g ≡ transferred_at (medium_at items of) → r ≡ g.answer → now ≡ given_to who.step g.medium (changed_at without_reference of items)
    → Acts did (λ n. Some (if_there (medium_at (seen_in items) of) (seen_in items) (λ m. transfer_held who.step of m m.held (seen_in items)))) (seen_in items) (seen_in now) (Some r)
transfer_acts adds same who did turn items now of g r here is answer variables =
    let w = medium_at items of in
    let seen_is = seen_at items of in
    let answered = answer ∙ ap (λ (x : Given). x.answer) is ∙ transfer_answer w ∙ ap (λ (v : Option Medium). (transfer_done v).answer) (sym seen_is) in
    let medium = ap (λ (x : Given). option_map seen x.medium) is ∙ transfer_medium w ∙ ap (λ (v : Option Medium). (transfer_done v).medium) (sym seen_is) in
    let kept = kept_seen who.step g.medium (changed_at without_reference of items) now (without of (seen_in items)) variables (seen_without of items) in
    record {
      numbers = no_numbers;
      came_by = transfer_came adds same who did turn (seen_in items) (seen_in now) of (medium_at (seen_in items) of) r here refl answered (kept ∙ ap (λ (m : Option Medium). given_to who.step m (without of (seen_in items))) medium);
    }

pub close_acts : (adds : PoolEntry → Type 0) (same : Type 0) (who : Who) (did : List PoolOp → Type 0) (turn : (o : Option PoolOp) → Does adds same who o → did (option_to_list o)) (items now : List (Option WholeMedium)) (of : ℕ) (w : Option WholeMedium) (r : StepResult) → medium_at items of ≡ w → r ≡ closed_answer w → now ≡ changed_at without_reference of items → Does adds same who (closed_op (option_map reference_of (whole_held w)))
    → Acts did (λ n. Some (if_there (medium_at (seen_in items) of) (seen_in items) (λ m. close_held of m m.held (seen_in items)))) (seen_in items) (seen_in now) (Some r)
close_acts adds same who did turn items now of w r at answer variables does =
    let seen_is = seen_at items of ∙ ap (option_map seen) at in
    let answered = answer ∙ seen_answer w ∙ ap (λ (v : Option Medium). closed_answer v) (sym seen_is) in
    let done = subst (λ (o : Option Reference). Does adds same who (closed_op o)) (whole_held_seen w ∙ ap held_by (sym seen_is)) does in
    record {
      numbers = no_numbers;
      came_by = close_came adds same who did turn (seen_in items) (seen_in now) of (medium_at (seen_in items) of) r refl answered (ap seen_in variables ∙ seen_without of items) done;
    }

-- ---- steps that make nothing

reads_keep : (v : Option Medium) (vs : List (Option Medium)) (answer : Medium → StepResult) → ((if_there v vs (λ m. only_answers (answer m) vs)).variables ≡ vs) × ((if_there v vs (λ m. only_answers (answer m) vs)).does ≡ [])
reads_keep None vs answer = (refl, refl)
reads_keep (Some m) vs answer = (refl, refl)

copy_keeps : (chunk : Option Chunk) (of : ℕ) (o : Options) (size : ℕ) (vs : List (Option Medium)) → ((copy_came chunk of o size vs).variables ≡ vs) × ((copy_came chunk of o size vs).does ≡ [])
copy_keeps chunk of options.Nothing size vs = (refl, refl)
copy_keeps chunk of (options.Audio o) size vs = reads_keep (medium_at vs of) vs (λ m. copy_medium m (options.Audio o) size)
copy_keeps chunk of (options.Frame o) size vs = reads_keep (medium_at vs of) vs (λ m. copy_medium m (options.Frame o) size)

module _ (who : Who) (did : List PoolOp → Type 0) (vs : List (Option Medium)) where
  reads_act : (c : Came) (r : StepResult) → did [] → r ≡ c.answer → (c.variables ≡ vs) × (c.does ≡ []) → Acts did (λ n. Some c) vs vs (Some r)
  reads_act c r here answer keeps = record {
    numbers = no_numbers;
    came_by = (ap Some answer, subst did (sym keeps.1) here, sym keeps.0);
  }

  pub copy_acts : (chunk : Option Chunk) (of : ℕ) (o : Options) (size : ℕ) (r : StepResult) → did [] → r ≡ (copy_came chunk of o size vs).answer → Acts did (λ n. Some (copy_came chunk of o size vs)) vs vs (Some r)
  copy_acts chunk of o size r here answer = reads_act (copy_came chunk of o size vs) r here answer (copy_keeps chunk of o size vs)

  pub size_acts : (of : ℕ) (o : Options) (r : StepResult) → did [] → r ≡ (if_there (medium_at vs of) vs (λ m. only_answers (size_of_medium m o) vs)).answer
      → Acts did (λ n. Some (if_there (medium_at vs of) vs (λ m. only_answers (size_of_medium m o) vs))) vs vs (Some r)
  size_acts of o r here answer = reads_act (if_there (medium_at vs of) vs (λ m. only_answers (size_of_medium m o) vs)) r here answer (reads_keep (medium_at vs of) vs (λ m. size_of_medium m o))

  -- a step that is the codec's
  pub codecs_act : (came : Numbers → Option Came) → ((n : Numbers) → came n ≡ None) → did [] → Acts did came vs vs None
  codecs_act came none here = record { numbers = no_numbers; came_by = subst (λ (y : Option Came). CameBy did vs vs y None) (sym (none no_numbers)) (refl, here, refl) }

-- ---- every step

module _ (who : Who) (did : List PoolOp → Type 0) (items slice : List (Option WholeMedium)) where
  -- where the variables were read from a slice
  pub copied_acts : (chunk : Option Chunk) (of : ℕ) (o : Options) (size : ℕ) (r : StepResult) → did [] → slice ≡ items → r ≡ (copy_came chunk of o size (seen_in slice)).answer
      → Acts did (λ n. Some (copy_came chunk of o size (seen_in items))) (seen_in items) (seen_in items) (Some r)
  copied_acts chunk of o size r here is answer =
      copy_acts who did (seen_in items) chunk of o size r here (answer ∙ ap (λ (l : List (Option WholeMedium)). (copy_came chunk of o size (seen_in l)).answer) is)

  pub sized_acts : (of : ℕ) (o : Options) (r : StepResult) → did [] → slice ≡ items → r ≡ (if_there (medium_at (seen_in slice) of) (seen_in slice) (λ m. only_answers (size_of_medium m o) (seen_in slice))).answer
      → Acts did (λ n. Some (if_there (medium_at (seen_in items) of) (seen_in items) (λ m. only_answers (size_of_medium m o) (seen_in items)))) (seen_in items) (seen_in items) (Some r)
  sized_acts of o r here is answer =
      size_acts who did (seen_in items) of o r here (answer ∙ ap (λ (l : List (Option WholeMedium)). (if_there (medium_at (seen_in l) of) (seen_in l) (λ m. only_answers (size_of_medium m o) (seen_in l))).answer) is)

-- what a step of this kind does, the step does
pub step_acts : {S : Type 0} (did : S → List PoolOp → Type 0) (who : Who) (b : Brought) (vs : List (Option Medium)) (step x : MediaStep) (pool now : S) (after later : List (Option Medium)) (r answer : StepResult)
    → step ≡ x → pool ≡ now → after ≡ later → r ≡ answer → Acts (did now) (λ n. media_came n who b x vs) vs later (Some answer)
    → Acts (did pool) (λ n. media_came n who b step vs) vs after (Some r)
step_acts did who b vs step x pool now after later r answer kind stands seen_as is h = rw (stands, kind, seen_as, is) h
