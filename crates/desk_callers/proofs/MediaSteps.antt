-- Steps of callers on media of their own are deeds.
use Rattle.std.proofs.Common.{ℕ, ◌≡◌, List, [], Option, Some, None, Result, Ok, Err, refl, sym, subst}
use Rattle.std.specs.Prelude.{unwrap_or, option_map}
use Rattle.wc_base.specs.declared.error.DomError.{DomError}
use Rattle.wc_base.specs.declared.who.Who.{Who}
use Rattle.wc_chunk.specs.declared.chunk.Chunk.{Chunk}
use Rattle.wc_chunk.specs.Copied.{copied_count, copied_to}
use Rattle.wc_audio.specs.Copies.{copied_audio, allocation_size}
use Rattle.wc_video.specs.Frames.{content_of}
use Rattle.wc_video.specs.Layouts.{size_of, layouts_of}
use Rattle.wc_video.specs.Copies as video
use Rattle.codec_accounts.specs.Calls as mark
use Rattle.script_types.specs.declared.script.ScriptData.{ScriptData}
use Rattle.script_types.specs.declared.options.Options.{Options}
use Rattle.script_types.specs.declared.steps.MediaStep.{MediaStep}
use Rattle.script_types.specs.declared.steps.Step.{Step}
use Rattle.report_text.specs.declared.result.StepResult.{StepResult}
use Rattle.media_variables.specs.Variables.{Reference, Shape, SoundOf, PictureOf, Medium, Numbers, Came, Received, Brought, zeros, sound_of, frame_of, copy_options, rect_of, layouts_in, audio_copied, frame_copied, planes_copied, chunk_copied, size_found, copy_chunk, copy_medium, size_of_medium, chunk_of_variable, media_came, all_but, adopted_in, steps_in}
use Rattle.media_variables.specs.CameLaws.{by_came, lets_each, made_answer}
use Rattle.run_model.specs.Recorded.{Recorded}
use Rattle.run_model.specs.Fits.{mark_of, taken_by, IsAnswerOf, LookShows}
use Rattle.run_model.specs.FitsLaws.{made_at}

-- neither a call of a codec, nor a look at one, nor a take
abbrev pub IsOwn : StepResult → Type 0
IsOwn r = mark_of r ≡ mark.Local

-- ---- copies and sizes

found_own : {X : Type 0} (f : Result X DomError → StepResult) (found : Result X DomError) → ((e : DomError) → IsOwn (f (Err e))) → ((x : X) → IsOwn (f (Ok x))) → IsOwn (f found)
found_own f (Err e) refused given = refused e
found_own f (Ok x) refused given = given x

chunk_own : (chunk : Option Chunk) (size : ℕ) → IsOwn (copy_chunk chunk size)
chunk_own None size = refl
chunk_own (Some c) size = found_own (chunk_copied (copied_to c.bytes (zeros size))) (copied_count c.bytes (zeros size)) (λ e. refl) (λ n. refl)

copy_own : (shape : Shape) (held : Option Reference) (o : Options) (size : ℕ) → IsOwn (copy_medium (record { shape = shape; held = held }) o size)
copy_own (SoundOf shape) held (Options.Audio (Some o)) size = found_own (audio_copied size) (copied_audio (sound_of shape held) size (copy_options o)) (λ e. refl) (λ bytes. refl)
copy_own (PictureOf shape) held (Options.Frame (Some o)) size =
    let f = frame_of shape held in
    found_own (planes_copied (unwrap_or (content_of f) []) (zeros size)) (video.plan_for f (option_map rect_of o.rect) (layouts_in o)) (λ e. refl)
    (λ cs. found_own (frame_copied (size_of cs) (layouts_of cs)) (video.copy_into (unwrap_or (content_of f) []) (zeros size) (Ok cs)) (λ e. refl) (λ copied. refl))
copy_own shape held o size = refl

size_own : (shape : Shape) (held : Option Reference) (o : Options) → IsOwn (size_of_medium (record { shape = shape; held = held }) o)
size_own (SoundOf shape) held (Options.Audio (Some o)) = found_own size_found (allocation_size (sound_of shape held) (copy_options o)) (λ e. refl) (λ n. refl)
size_own (PictureOf shape) held (Options.Frame (Some o)) = found_own size_found (video.allocation_size (frame_of shape held) (option_map rect_of o.rect) (layouts_in o)) (λ e. refl) (λ n. refl)
size_own shape held o = refl

-- to which no output is brought
abbrev pub without_output : Option Chunk → Option Received → Brought
without_output chunk received = record { chunk = chunk; taken = None; received = received }

-- what a step on media answers
pub media_own : (n : Numbers) (who : Who) (chunk : Option Chunk) (received : Option Received) (x : MediaStep) (vs : List (Option Medium)) (y : Came) → media_came n who (without_output chunk received) x vs ≡ Some y → IsOwn y.answer
media_own n who chunk received x vs y = by_came n who (without_output chunk received) vs (λ z came. IsOwn came.answer) (record {
  refuses = λ z e. refl;
  absent = λ z. refl;
  audio = λ bind i. refl;
  frame = λ bind i. refl;
  buffer = λ bind bytes. refl;
  buffered = λ bind i valid may. lets_each (λ c. IsOwn c.answer) (λ j c own. own) (all_but (adopted_in i) (steps_in i.transfer)) _ (subst IsOwn (sym (made_answer n who.step i (adopted_in i) vs)) refl);
  posts = λ to content m r is holds. refl;
  receives_none = λ from bind kind is. refl;
  receives = λ from bind kind p is. refl;
  takes = λ on bind kind t is. absurd cc;
  clones = λ of bind m r is holds. refl;
  transfers = λ of bind m r is holds. refl;
  closed = λ of m is holds. refl;
  closes = λ of m r is holds. refl;
  copies_chunk = λ of size. chunk_own (chunk_of_variable chunk vs of.step) size;
  copies = λ of o size m is. copy_own m.shape m.held o size;
  sizes = λ of o m is. size_own m.shape m.held o;
}) x y

-- ---- what such an answer says

pub own_answer : (s : ScriptData) (w : Recorded) (r : StepResult) → IsOwn r → IsAnswerOf s w None r
own_answer s w (StepResult.Call k p e) own = absurd cc
own_answer s w (StepResult.Unit k p n) own = absurd cc
own_answer s w (StepResult.NoUnit k n) own = absurd cc
own_answer s w r own = tt

pub own_shows : (s : ScriptData) (w : Recorded) (c : ℕ) (x : MediaStep) (r : StepResult) → IsOwn r → LookShows s w c (Step.Media x) r
own_shows s w c x (StepResult.Look k n end) own = absurd cc
own_shows s w c x (StepResult.State k n state size) own = absurd cc
own_shows s w c x (StepResult.NoUnit k n) own = absurd cc
own_shows s w c x r own = tt

pub own_made : (r : StepResult) → IsOwn r → made_at r ≡ None
own_made (StepResult.Call k p e) own = absurd cc
own_made (StepResult.Unit k p n) own = absurd cc
own_made r own = refl

pub own_takes : (s : ScriptData) (w : Recorded) (r : StepResult) → IsOwn r → taken_by s w (Some r) ≡ None
own_takes s w (StepResult.Unit k p n) own = absurd cc
own_takes s w r own = refl
