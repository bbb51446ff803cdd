-- What steps on media answer, to which no output is brought, is neither a call of a codec, nor a look at one, nor a take.
use Rattle.std.proofs.Common.{ℕ, ◌≡◌, List, [], Option, Some, None, Result, Ok, Err, refl, sym, subst, rules}
use Rattle.std.specs.Prelude.{unwrap_or, option_map}
use Rattle.wc_base.specs.declared.{error.DomError.DomError, who.Who.Who}
use Rattle.wc_chunk.specs.{declared.chunk.Chunk.Chunk, Copied.copied_count, Copied.copied_to}
use Rattle.wc_audio.specs.Copies.{copied_audio, allocation_size}
use Rattle.wc_video.specs.{Frames.content_of, Layouts.size_of, Layouts.layouts_of}
use Rattle.wc_video.specs.Copies as video
use Rattle.codec_accounts.specs.Calls as mark
use Rattle.script_types.specs.declared.{script.ScriptData.ScriptData, options.Options.Options, steps.MediaStep.MediaStep, steps.Step.Step}
use Rattle.report_text.specs.declared.result.StepResult.{StepResult}
use Rattle.media_variables.specs.Variables.{Reference, Shape, SoundOf, PictureOf, Medium, Numbers, Came, Received, zeros, sound_of, frame_of, copy_options, rect_of, layouts_in, audio_copied, frame_copied, planes_copied, chunk_copied, size_found, copy_chunk, copy_medium, size_of_medium, chunk_of_variable, media_came, all_but, adopted_in, steps_in}
use Rattle.media_variables.specs.CameLaws.{by_came, lets_each, made_answer}
use Rattle.run_model.specs.Recorded.{Recorded}
use Rattle.order_laws.proofs.Grown.{IsFound, brought}
use Rattle.run_model.specs.Fits.{mark_of, taken_by, IsResultOf, LookShows, IsLocalAnswer}

-- neither a call of a codec, nor a look at one, nor a take
abbrev pub IsOwn : StepResult → Type 0
IsOwn r = mark_of r ≡ mark.Local

-- it answers its step, names no output, and took none
pub record OwnFacts (s : ScriptData) (files : List (List Chunk)) (w : Recorded) (who : Who) (before : List (Option Medium)) (y : Came) (c : ℕ) (x : MediaStep) (r : StepResult) : Type 0 where
  pub made : IsResultOf s w who (Step.Media x) r
  pub found : IsFound s w r
  pub shows : LookShows s w c (Step.Media x) r
  pub answers : IsLocalAnswer s files before (Some y) c (Step.Media x) r
  pub took : taken_by s w (Some r) ≡ None

-- a step on media answers what it comes to
pub own_facts : (s : ScriptData) (files : List (List Chunk)) (w : Recorded) (n : Numbers) (who : Who) (chunk : Option Chunk) (received : Option Received) (before vs : List (Option Medium)) (y : Came) (c : ℕ) (x : MediaStep) (r : StepResult)
    → media_came n who (brought chunk None received) x vs ≡ Some y → IsOwn r → r ≡ y.answer → OwnFacts s files w who before y c x r
own_facts s files w n who chunk received before vs y c x (StepResult.Call k place error) comes own same = absurd cc
own_facts s files w n who chunk received before vs y c (MediaStep.CloseData of) r comes own same = search rules
own_facts s files w n who chunk received before vs y c x r comes own same = search rules

-- ---- copies and sizes

-- what was found, or why it was refused
result_own : {X : Type 0} (f : Result X DomError → StepResult) (found : Result X DomError) → ((e : DomError) → IsOwn (f (Err e))) → ((x : X) → IsOwn (f (Ok x))) → IsOwn (f found)
result_own f (Err e) refused given = refused e
result_own f (Ok x) refused given = given x

chunk_own : (chunk : Option Chunk) (size : ℕ) → IsOwn (copy_chunk chunk size)
chunk_own None size = refl
chunk_own (Some c) size = result_own (chunk_copied (copied_to c.bytes (zeros size))) (copied_count c.bytes (zeros size)) (λ e. refl) (λ n. refl)

copy_own : (shape : Shape) (held : Option Reference) (o : Options) (size : ℕ) → IsOwn (copy_medium (record { shape = shape; held = held }) o size)
copy_own (SoundOf shape) held (Options.Audio (Some o)) size = result_own (audio_copied size) (copied_audio (sound_of shape held) size (copy_options o)) (λ e. refl) (λ bytes. refl)
copy_own (PictureOf shape) held (Options.Frame (Some o)) size =
    let f = frame_of shape held in
    let bytes = unwrap_or (content_of f) [] in
    result_own (planes_copied bytes (zeros size)) (video.plan_for f (option_map rect_of o.rect) (layouts_in o)) (λ e. refl)
    (λ cs. result_own (frame_copied (size_of cs) (layouts_of cs)) (video.copy_into bytes (zeros size) (Ok cs)) (λ e. refl) (λ copied. refl))
copy_own shape held o size = refl

size_own : (shape : Shape) (held : Option Reference) (o : Options) → IsOwn (size_of_medium (record { shape = shape; held = held }) o)
size_own (SoundOf shape) held (Options.Audio (Some o)) = result_own size_found (allocation_size (sound_of shape held) (copy_options o)) (λ e. refl) (λ n. refl)
size_own (PictureOf shape) held (Options.Frame (Some o)) = result_own size_found (video.allocation_size (frame_of shape held) (option_map rect_of o.rect) (layouts_in o)) (λ e. refl) (λ n. refl)
size_own shape held o = refl

-- ---- every step

-- where no output is brought to it
pub media_own : (n : Numbers) (who : Who) (chunk : Option Chunk) (received : Option Received) (x : MediaStep) (vs : List (Option Medium)) (y : Came) → media_came n who (brought chunk None received) x vs ≡ Some y → IsOwn y.answer
media_own n who chunk received x vs y = by_came n who (brought chunk None received) vs (λ z came. IsOwn came.answer) (record {
  refuses = λ z e. refl;
  absent = λ z. refl;
  audio = λ bind i. refl;
  frame = λ bind i. refl;
  buffer = λ bind bytes. refl;
  buffered = λ bind i valid may. lets_each (λ c. IsOwn c.answer) (λ j c own. own) (all_but (adopted_in i) (steps_in i.transfer)) _ (subst IsOwn (sym (made_answer n who.step i (adopted_in i) vs)) refl);
  posts = λ to content m r is holds. refl;
  receives_none = λ from bind kind is. refl;
  receives = λ from bind kind p is. refl;
  takes = λ on bind kind t is. absurd cc;
  clones = λ of bind m r is holds. refl;
  transfers = λ of bind m r is holds. refl;
  closed = λ of m is holds. refl;
  closes = λ of m r is holds. refl;
  copies_chunk = λ of size. chunk_own (chunk_of_variable chunk vs of.step) size;
  copies = λ of o size m is. copy_own m.shape m.held o size;
  sizes = λ of o m is. size_own m.shape m.held o;
}) x y
