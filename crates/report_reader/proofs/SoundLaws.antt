-- What sound steps say of buffers: none is cloned or handed on, and an init's data is one.
use Rattle.std.proofs.Common.{ℕ, zero, suc, ◌≡◌, ◌<◌, true, false, List, [], ◌∷◌, take, Option, Some, None, refl, ap, sym, subst, ◌∙◌}
use Rattle.std.specs.Prelude.{option_and_then, slice_get}
use Rattle.std.proofs.lemmas.{Bool.and_parts, Option.some_pair_parts}
use Rattle.wc_config.specs.declared.kind.Kind.{Kind}
use Rattle.codec_accounts.specs.ListLaws.{get_from_front, taken_before}
use Rattle.script_types.specs.declared.{script.ScriptData.ScriptData, script.CallerItem.CallerItem, script.CodecItem.CodecItem, steps.Variable.Variable, steps.VariableKind.VariableKind, steps.MediaStep.MediaStep, steps.Step.Step, steps.InitShape.InitShape}
use Rattle.script_types.specs.Names.{binds, is_medium, is_buffer, made_of}
use Rattle.script_types.specs.Sound.{is_sound, is_sound_step, is_variable, is_free, gives}
use Rattle.script_types.specs.SoundLaws.{codec_there, step_at, variable_is}
use Rattle.run_model.specs.Recorded.{steps_in, steps_of}
use Rattle.report_reader.proofs.{StandingLaws.buffer_made, PortLaws.empty_none}

-- a step of a sound script is sound after its caller's earlier steps
pub sound_step : (s : ScriptData) → is_sound s ≡ true → (c j : ℕ) (x : Step) → slice_get (steps_of s c) j ≡ Some x → is_sound_step s.codecs (take j (steps_of s c)) x ≡ true
sound_step s sound c j x is = found (slice_get s.callers c) refl
  where
    steps_there : (c : ℕ) (callers : List CallerItem) (o : Option CallerItem) → slice_get callers c ≡ o → steps_in callers c ≡ elim o [ None ↦ [] | Some item ↦ item.steps ]
    steps_there c [] None here = refl
    steps_there c [] (Some item) here = absurd cc
    steps_there zero (y ∷ ys) None here = absurd cc
    steps_there zero (y ∷ ys) (Some item) here = (let same : y ≡ item = cc in ap (λ (k : CallerItem). k.steps) same)
    steps_there (suc c) (y ∷ ys) o here = steps_there c ys o here

    found : (o : Option CallerItem) → slice_get s.callers c ≡ o → is_sound_step s.codecs (take j (steps_of s c)) x ≡ true
    found None here = absurd (empty_none (steps_of s c) j x (steps_there c s.callers None here) is)
    found (Some item) here =
        let same : steps_of s c ≡ item.steps = steps_there c s.callers (Some item) here in
        subst (λ (ys : List Step). is_sound_step s.codecs (take j ys) x ≡ true) (sym same) (step_at s c j item x sound here (subst (λ (ys : List Step). slice_get ys j ≡ Some x) same is))

-- ---- what makes no buffer

kind_apart : (k : VariableKind) → is_medium k ≡ true → is_buffer k ≡ true → ⊥
kind_apart VariableKind.Buffer h g = absurd cc
kind_apart VariableKind.Audio h g = absurd cc
kind_apart VariableKind.Frame h g = absurd cc
kind_apart VariableKind.Chunk h g = absurd cc
kind_apart VariableKind.Promise h g = absurd cc

-- a step that defines audio data or a frame makes no buffer
no_buffer_made : (x : Step) (name : List ℕ) (k : VariableKind) → binds x ≡ Some (name, k) → is_medium k ≡ true → buffer_made x ≡ None
no_buffer_made (Step.Media (MediaStep.Buffer bind bytes)) name k is h = absurd (kind_apart k h (ap is_buffer (sym (some_pair_parts bind name VariableKind.Buffer k is).1)))
no_buffer_made x name k is h = refl

medium_unmade : (steps : List Step) (n : ℕ) (v : Variable) → is_variable (take n steps) is_medium v ≡ true → option_and_then buffer_made (slice_get steps v.step) ≡ None
medium_unmade steps n v h =
    let d = variable_is (take n steps) is_medium v h in
    let there = get_from_front steps n v.step d.0.definer d.0.stands in
    ap (option_and_then buffer_made) there ∙ no_buffer_made d.0.definer d.0.name v.kind d.0.defines d.1

-- what a sound step clones, hands on or posts
pub cloned_unmade : (codecs : List CodecItem) (steps : List Step) (n : ℕ) (of : Variable) (bind : List ℕ) → is_sound_step codecs (take n steps) (Step.Media (MediaStep.Clone of bind)) ≡ true → option_and_then buffer_made (slice_get steps of.step) ≡ None
cloned_unmade codecs steps n of bind h = medium_unmade steps n of (and_parts (is_variable (take n steps) is_medium of) (is_free (take n steps) bind) h).0

pub transferred_unmade : (codecs : List CodecItem) (steps : List Step) (n : ℕ) (of : Variable) (bind : List ℕ) → is_sound_step codecs (take n steps) (Step.Media (MediaStep.Transfer of bind)) ≡ true → option_and_then buffer_made (slice_get steps of.step) ≡ None
transferred_unmade codecs steps n of bind h = medium_unmade steps n of (and_parts (is_variable (take n steps) is_medium of) (is_free (take n steps) bind) h).0

pub posted_unmade : (codecs : List CodecItem) (steps : List Step) (n to : ℕ) (content : Variable) → is_sound_step codecs (take n steps) (Step.Media (MediaStep.Post to content)) ≡ true → option_and_then buffer_made (slice_get steps content.step) ≡ None
posted_unmade codecs steps n to content h = medium_unmade steps n content h

-- ---- what makes a buffer

no_output : (v : VariableKind) (k : Kind) → gives v k ≡ true → is_buffer v ≡ true → ⊥
no_output VariableKind.Buffer Kind.AudioDecoder h g = absurd cc
no_output VariableKind.Buffer Kind.AudioEncoder h g = absurd cc
no_output VariableKind.Buffer Kind.VideoDecoder h g = absurd cc
no_output VariableKind.Buffer Kind.VideoEncoder h g = absurd cc
no_output VariableKind.Chunk k h g = absurd cc
no_output VariableKind.Audio k h g = absurd cc
no_output VariableKind.Frame k h g = absurd cc
no_output VariableKind.Promise k h g = absurd cc

no_made : (i : InitShape) → is_buffer (made_of i) ≡ true → ⊥
no_made (InitShape.Chunk key timestamp duration) g = absurd cc
no_made (InitShape.Sound shape) g = absurd cc
no_made (InitShape.Picture shape) g = absurd cc

-- the kind that a step binds
bound_kind : (bind name : List ℕ) (a k : VariableKind) → ◌≡◌ {A = Option (List ℕ × VariableKind)} (Some (bind, a)) (Some (name, k)) → is_buffer k ≡ true → is_buffer a ≡ true
bound_kind bind name a k is g = ap is_buffer (some_pair_parts bind name a k is).1 ∙ g

-- a sound step that defines a buffer makes one
pub makes_buffer : (codecs : List CodecItem) (before : List Step) (x : Step) (name : List ℕ) (k : VariableKind) → is_sound_step codecs before x ≡ true → binds x ≡ Some (name, k) → is_buffer k ≡ true → (bytes : List ℕ) × (buffer_made x ≡ Some bytes)
makes_buffer codecs before (Step.Media (MediaStep.Buffer bind bytes)) name k h is g = (bytes, refl)
makes_buffer codecs before (Step.Media (MediaStep.Audio bind init)) name k h is g = (let no : false ≡ true = bound_kind bind name VariableKind.Audio k is g in absurd cc)
makes_buffer codecs before (Step.Media (MediaStep.Frame bind init)) name k h is g = (let no : false ≡ true = bound_kind bind name VariableKind.Frame k is g in absurd cc)
makes_buffer codecs before (Step.Media (MediaStep.Buffered bind i)) name k h is g = absurd (no_made i.shape (bound_kind bind name (made_of i.shape) k is g))
makes_buffer codecs before (Step.Media (MediaStep.Take on bind v)) name k h is g =
    absurd (no_output v _ (codec_there codecs (gives v) on (and_parts _ (is_free before bind) h).0).2 (bound_kind bind name v k is g))
makes_buffer codecs before (Step.Media (MediaStep.Clone of bind)) name k h is g =
    absurd (kind_apart of.kind (variable_is before is_medium of (and_parts (is_variable before is_medium of) (is_free before bind) h).0).1 (bound_kind bind name of.kind k is g))
makes_buffer codecs before (Step.Media (MediaStep.Transfer of bind)) name k h is g =
    absurd (kind_apart of.kind (variable_is before is_medium of (and_parts (is_variable before is_medium of) (is_free before bind) h).0).1 (bound_kind bind name of.kind k is g))
makes_buffer codecs before (Step.Media (MediaStep.Receive port bind v)) name k h is g = absurd (kind_apart v (and_parts (is_free before bind) (is_medium v) h).1 (bound_kind bind name v k is g))
makes_buffer codecs before (Step.Chunk bind source) name k h is g = (let no : false ≡ true = bound_kind bind name VariableKind.Chunk k is g in absurd cc)
makes_buffer codecs before (Step.Flush on bind) name k h is g = (let no : false ≡ true = bound_kind bind name VariableKind.Promise k is g in absurd cc)
makes_buffer codecs before (Step.Media x) name k h is g = absurd cc
makes_buffer codecs before x name k h is g = absurd cc

-- the buffer that is an init's data was made by an earlier step
pub source_made : (s : ScriptData) → is_sound s ≡ true → (c j : ℕ) (v : Variable) → is_variable (take j (steps_of s c)) is_buffer v ≡ true → (x : Step) × ((bytes : List ℕ) × ((slice_get (steps_of s c) v.step ≡ Some x) × (buffer_made x ≡ Some bytes)))
source_made s sound c j v h =
    let d = variable_is (take j (steps_of s c)) is_buffer v h in
    let there = get_from_front (steps_of s c) j v.step d.0.definer d.0.stands in
    let made = makes_buffer s.codecs (take v.step (steps_of s c)) d.0.definer d.0.name v.kind (sound_step s sound c v.step d.0.definer there) d.0.defines d.1 in
    (d.0.definer, (made.0, (there, made.1)))

pub source_before : (s : ScriptData) (c j : ℕ) (v : Variable) → is_variable (take j (steps_of s c)) is_buffer v ≡ true → v.step < j
source_before s c j v h = let d = variable_is (take j (steps_of s c)) is_buffer v h in taken_before (steps_of s c) j v.step d.0.definer d.0.stands
